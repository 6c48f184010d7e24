-- What a world shows of an end after a party posted frames.
use Rattle.std.proofs.Common.{◌≡◌, ℕ, ◌+◌, ◌<◌, List, [], ◌∷◌, ◌++◌, refl, sym, ◌∙◌, append-nil, arith}
use Rattle.std.specs.Prelude.{Bool, true, false, ◌&&◌, ◌==◌, if◌then◌else◌, map}
use Rattle.std.specs.List.{filter, AllByRecursion}
use Rattle.std.proofs.lemmas.Bool.{eqb-true, ne_eqb}
use Rattle.sj_base.specs.declared.EndId.{EndId}
use Rattle.sj_base.specs.declared.Msg.{Msg}
use Rattle.sj_rules.specs.Record.{EndAt, BodyAt, Carry, Mail, is_same_end}
use Rattle.sj_rules.specs.Rows.{numbered_carries, mails_of}
use Rattle.sj_rules.specs.Frames.{FrameAt, frames_for}
use Rattle.sj_rules.specs.World.{WorldAt, lanes_with}
use Rattle.sj_rules.specs.Seat.{Seat, signalled, Side, source_for, taker_of, coming_of, side_of}
use Rattle.sj_rules.specs.Shown.{Shows, bodies, goes_to, is_claim, is_give}
use Rattle.sj_rules.specs.Linked.{subject_of, AreProper}
use Rattle.sj_world_lemmas.proofs.LaneLemmas.{sent_to, post_seen}
use Rattle.sj_world_lemmas.proofs.ShownLemmas.{frames_more}
use Rattle.sj_world_lemmas.proofs.PopLemmas.{goes_apart, claim_apart, give_apart, IsStream, stream_claims, stream_gives}

-- the world with those posts of a party
abbrev pub with_posts : {P Q : Type 0} → WorldAt P Q → (at clock : ℕ) → List (Mail P) → WorldAt P Q
with_posts w at clock posts = record w { lanes = lanes_with at clock posts w.lanes }

-- what holds of each body
abbrev pub AreMails : {P : Type 0} → (BodyAt P → Type 0) → List (Mail P) → Type 0
AreMails Is posts = AllByRecursion (λ m. Is m.body) posts

-- about other ends than this one
abbrev pub AreApart : {P : Type 0} → EndId → List (Mail P) → Type 0
AreApart id posts = AreMails (λ b. is_same_end (subject_of b) id ≡ false) posts

module _ {P : Type 0} (test : BodyAt P → Bool) (to : ℕ) where
  -- the first post, and the others
  pub sent_cons : (m : Mail P) (ms : List (Mail P)) →
      filter test (sent_to to (m ∷ ms)) ≡ (if (to == m.party) && test m.body then m.body ∷ [] else []) ++ filter test (sent_to to ms)
  sent_cons m ms = by (to == m.party) (test m.body) refl
    where
      by : (a b : Bool) → test m.body ≡ b → filter test (map (λ k. k.body) (if a then m ∷ filter (λ k. to == k.party) ms else filter (λ k. to == k.party) ms))
          ≡ (if a && b then m.body ∷ [] else []) ++ filter test (sent_to to ms)
      by true true e = rw e
      by true false e = rw e
      by false b e = refl

  -- posts of which none passes
  pub sent_none : (ms : List (Mail P)) → AreMails (λ b. test b ≡ false) ms → filter test (sent_to to ms) ≡ []
  sent_none [] a = refl
  sent_none (m ∷ ms) a = sent_cons m ms ∙ rw (a.0, sent_none ms a.1) (by (to == m.party))
    where
      by : (b : Bool) → (if b && false then m.body ∷ [] else []) ++ [] ≡ []
      by true = refl
      by false = refl

-- a weaker fact of each body
pub mails_by : {P : Type 0} → (A B : BodyAt P → Type 0) → ((b : BodyAt P) → A b → B b) → (ms : List (Mail P)) → AreMails A ms → AreMails B ms
mails_by A B h [] a = tt
mails_by A B h (m ∷ ms) a = (h m.body a.0, mails_by A B h ms a.1)

-- Carries for an end that go to a party
pub sent_numbered : (P : Type 0) (id : EndId) (c to a n told k : ℕ) (ms : List Msg) → is_same_end id id ≡ true →
    filter (goes_to {P = P} id c) (sent_to to (mails_of a (numbered_carries id n told k ms))) ≡ (if (to == a) && (c == n) then numbered_carries id n told k ms else [])
sent_numbered P id c to a n told k [] e = by ((to == a) && (c == n))
  where
    by : (b : Bool) → ◌≡◌ {A = List (BodyAt P)} [] (if b then [] else [])
    by true = refl
    by false = refl
sent_numbered P id c to a n told k (m ∷ ms) e =
    sent_cons (goes_to id c) to (record { party = a; body = Carry id n k told m }) (mails_of a (numbered_carries id n told (k + 1) ms))
    ∙ rw (e, sent_numbered P id c to a n told (k + 1) ms e) (by (to == a) (c == n))
  where
    by : (x y : Bool) → ◌≡◌ {A = List (BodyAt P)} ((if x && y then Carry id n k told m ∷ [] else []) ++ (if x && y then numbered_carries id n told (k + 1) ms else []))
        (if x && y then Carry id n k told m ∷ numbered_carries id n told (k + 1) ms else [])
    by true true = refl
    by true false = refl
    by false y = refl

module _ {P Q : Type 0} (w : WorldAt P Q) (at clock : ℕ) (posts : List (Mail P)) where
  -- nothing is posted that passes
  pub unseen_posts : (test : BodyAt P → Bool) → AreMails (λ b. test b ≡ false) posts → (from to : ℕ) →
      filter test (bodies ((with_posts w at clock posts).lanes from to)) ≡ filter test (bodies (w.lanes from to))
  unseen_posts test none from to = post_seen test at clock posts w.lanes from to ∙ rw (sent_none test to posts none) (by (from == at))
    where
      by : (b : Bool) → filter test (bodies (w.lanes from to)) ++ (if b then [] else []) ≡ filter test (bodies (w.lanes from to))
      by true = append-nil (filter test (bodies (w.lanes from to)))
      by false = append-nil (filter test (bodies (w.lanes from to)))

  -- an end that the posts aren't about
  pub posts_apart : (o : Seat P) (d : Side P) → AreApart d.id posts → Shows w o d → Shows (with_posts w at clock posts) o d
  posts_apart o d apart s = record {
    mains = s.mains;
    olds = s.olds;
    frames = λ from to c. unseen_posts (goes_to d.id c) (mails_by (λ b. is_same_end (subject_of b) d.id ≡ false) (λ b. goes_to d.id c b ≡ false) (λ b e. goes_apart d.id c b e) posts apart) from to ∙ s.frames from to c;
    claims = λ from to. unseen_posts (is_claim d.id) (mails_by (λ b. is_same_end (subject_of b) d.id ≡ false) (λ b. is_claim d.id b ≡ false) (λ b e. claim_apart d.id b e) posts apart) from to ∙ s.claims from to;
    gives = λ from to. unseen_posts (is_give d.id) (mails_by (λ b. is_same_end (subject_of b) d.id ≡ false) (λ b. is_give d.id b ≡ false) (λ b e. give_apart d.id b e) posts apart) from to ∙ s.gives from to;
  }

  -- frames for the live stream of an end whose source is the party
  pub posted_live : (o : Seat P) (r : Side P) (more : List (BodyAt P)) → source_for o r.seat ≡ at → AreMails IsStream posts →
      ((to c : ℕ) → filter (goes_to r.id c) (sent_to to posts) ≡ (if (to == taker_of r.seat) && (c == coming_of r.seat) then more else [])) →
      Shows w o r → Shows (with_posts w at clock posts) o (record r { live = r.live ++ more })
  posted_live o r more source streams sent s = record {
    mains = s.mains;
    olds = s.olds;
    frames = λ from to c. rw (← source) (frames_more w o r clock posts more s sent from to c);
    claims = λ from to. unseen_posts (is_claim r.id) (mails_by IsStream (λ b. is_claim r.id b ≡ false) (λ b i. stream_claims r.id b i) posts streams) from to ∙ s.claims from to;
    gives = λ from to. unseen_posts (is_give r.id) (mails_by IsStream (λ b. is_give r.id b ≡ false) (λ b i. stream_gives r.id b i) posts streams) from to ∙ s.gives from to;
  }

  -- frames under both numbers of a Signalled end
  pub posted_both : (o : Seat P) (id : EndId) (place : P) (a t : ℕ) (e : EndAt P) (ds old live old_more live_more : List (BodyAt P)) →
      source_for o (signalled a t e ds) ≡ at → e.peer ≡ at → AreMails IsStream posts →
      ((to c : ℕ) → filter (goes_to id c) (sent_to to posts) ≡ (if (to == a) && (c == e.conn) then old_more else []) ++ (if (to == t) && (c == e.conn + 1) then live_more else [])) →
      Shows w o (side_of id place (signalled a t e ds) old live) →
      Shows (with_posts w at clock posts) o (side_of id place (signalled a t e ds) (old ++ old_more) (live ++ live_more))
  posted_both o id place a t e ds old live old_more live_more source peer streams sent s = record {
    mains = s.mains;
    olds = s.olds;
    frames = λ from to c. post_seen (goes_to id c) at clock posts w.lanes from to
        ∙ rw (s.frames from to c, sent to c, source, peer) (by (from == at) (to == a) (c == e.conn) (to == t) (c == e.conn + 1) (not_next c));
    claims = λ from to. unseen_posts (is_claim id) (mails_by IsStream (λ b. is_claim id b ≡ false) (λ b i. stream_claims id b i) posts streams) from to ∙ s.claims from to;
    gives = λ from to. unseen_posts (is_give id) (mails_by IsStream (λ b. is_give id b ≡ false) (λ b i. stream_gives id b i) posts streams) from to ∙ s.gives from to;
  }
    where
      not_next : (c : ℕ) → (c == e.conn) ≡ true → (c == e.conn + 1) ≡ false
      not_next c i = let k : c ≡ e.conn = eqb-true c e.conn i in ne_eqb c (e.conn + 1) (λ j. omega (arith, k, j))

      by : (f k d u g : Bool) → (d ≡ true → g ≡ false) →
          ((if (f && k) && d then old else []) ++ (if (f && u) && g then live else []))
          ++ (if f then (if k && d then old_more else []) ++ (if u && g then live_more else []) else [])
          ≡ (if (f && k) && d then old ++ old_more else []) ++ (if (f && u) && g then live ++ live_more else [])
      by false k d u g x = refl
      by true false d true true x = refl
      by true false d true false x = refl
      by true false d false g x = refl
      by true true false true true x = refl
      by true true false true false x = refl
      by true true false false g x = refl
      by true true true true true x = absurd (cc (x refl))
      by true true true true false x = at_old
        where
          at_old : (old ++ []) ++ (old_more ++ []) ≡ (old ++ old_more) ++ []
          at_old = rw (append-nil old, append-nil old_more) (sym (append-nil (old ++ old_more)))
      by true true true false g x = at_old
        where
          at_old : (old ++ []) ++ (old_more ++ []) ≡ (old ++ old_more) ++ []
          at_old = rw (append-nil old, append-nil old_more) (sym (append-nil (old ++ old_more)))

-- frames about ends, of two lists
bodies_side : {P : Type 0} → (fs gs : List (FrameAt P)) → AllByRecursion (λ b. (subject_of b).side < 2) (bodies fs) → AllByRecursion (λ b. (subject_of b).side < 2) (bodies gs) →
    AllByRecursion (λ b. (subject_of b).side < 2) (bodies (fs ++ gs))
bodies_side [] gs a b = b
bodies_side (f ∷ fs) gs a b = (a.0, bodies_side fs gs a.1 b)

-- posts about ends
frames_side : {P : Type 0} → (to clock : ℕ) (ms : List (Mail P)) → AreMails (λ b. (subject_of b).side < 2) ms → AllByRecursion (λ b. (subject_of b).side < 2) (bodies (frames_for to clock ms))
frames_side to clock [] a = tt
frames_side {P} to clock (m ∷ ms) a = by (frames_side to clock ms a.1) (to == m.party)
  where
    by : AllByRecursion (λ b. (subject_of b).side < 2) (bodies (frames_for to clock ms)) → (b : Bool) → AllByRecursion (λ b. (subject_of b).side < 2) (bodies (map (λ k. record { clock = clock; body = k.body }) (if b then m ∷ filter (λ k. to == k.party) ms else filter (λ k. to == k.party) ms)))
    by below true = (a.0, below)
    by below false = below

-- the frames are still about ends
pub posts_proper : {P Q : Type 0} → (w : WorldAt P Q) (at clock : ℕ) (posts : List (Mail P)) → AreMails (λ b. (subject_of b).side < 2) posts → AreProper w.lanes → AreProper (with_posts w at clock posts).lanes
posts_proper w at clock posts sides proper from to = by (from == at)
  where
    by : (b : Bool) → AllByRecursion (λ b. (subject_of b).side < 2) (bodies (if b then w.lanes from to ++ frames_for to clock posts else w.lanes from to))
    by true = bodies_side (w.lanes from to) (frames_for to clock posts) (proper from to) (frames_side to clock posts sides)
    by false = proper from to
