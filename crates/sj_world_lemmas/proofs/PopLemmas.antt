-- What a world shows of an end after the front frame of a lane was taken.
use Rattle.std.proofs.Common.{◌≡◌, ℕ, ◌<◌, List, [], ◌∷◌, ◌++◌, refl, ap, ◌∙◌}
use Rattle.std.specs.Prelude.{Bool, true, false, ⊤, ◌&&◌, ◌==◌, if◌then◌else◌}
use Rattle.std.specs.List.{filter, AllByRecursion}
use Rattle.std.proofs.lemmas.Bool.{eq-eqb}
use Rattle.sj_base.specs.declared.EndId.{EndId}
use Rattle.sj_rules.specs.Record.{EndAt, BodyAt, Carry, Fin, Claim, Signal, Ack, Give, Open, is_same_end}
use Rattle.sj_rules.specs.Frames.{FrameAt}
use Rattle.sj_rules.specs.World.{WorldAt, with_lane}
use Rattle.sj_rules.specs.Seat.{Seat, signalled, Side, source_for, taker_of, coming_of, side_of}
use Rattle.sj_rules.specs.Shown.{Shows, bodies, goes_to, is_claim, is_give, is_lane, old_in, live_in}
use Rattle.sj_rules.specs.Linked.{subject_of, AreProper}
use Rattle.sj_world_lemmas.proofs.LaneLemmas.{at_pop, pop_unseen}
use Rattle.sj_world_lemmas.proofs.ShownLemmas.{frames_left}

-- the world without that frame
abbrev pub popped : {P Q : Type 0} → WorldAt P Q → (q p : ℕ) → List (FrameAt P) → WorldAt P Q
popped w q p rest = record w { lanes = with_lane q p rest w.lanes }

-- a body about another end is no frame to this one, and no Claim or Give of it
pub goes_apart : {P : Type 0} → (id : EndId) (c : ℕ) (b : BodyAt P) → is_same_end (subject_of b) id ≡ false → goes_to id c b ≡ false
goes_apart id c (Carry to conn number taken msg) e = rw e
goes_apart id c (Fin to conn number) e = rw e
goes_apart id c (Claim of) e = refl
goes_apart id c (Signal to conn party taken) e = rw e
goes_apart id c (Ack of conn) e = rw e
goes_apart id c (Give end resend) e = refl
goes_apart id c (Open sess) e = refl

-- no Claim of it
pub claim_apart : {P : Type 0} → (id : EndId) (b : BodyAt P) → is_same_end (subject_of b) id ≡ false → is_claim id b ≡ false
claim_apart id (Carry to conn number taken msg) e = refl
claim_apart id (Fin to conn number) e = refl
claim_apart id (Claim of) e = e
claim_apart id (Signal to conn party taken) e = refl
claim_apart id (Ack of conn) e = refl
claim_apart id (Give end resend) e = refl
claim_apart id (Open sess) e = refl

-- no Give of it
pub give_apart : {P : Type 0} → (id : EndId) (b : BodyAt P) → is_same_end (subject_of b) id ≡ false → is_give id b ≡ false
give_apart id (Carry to conn number taken msg) e = refl
give_apart id (Fin to conn number) e = refl
give_apart id (Claim of) e = refl
give_apart id (Signal to conn party taken) e = refl
give_apart id (Ack of conn) e = refl
give_apart id (Give end resend) e = e
give_apart id (Open sess) e = refl

-- without the first
abbrev pub rest_of : {A : Type 0} → List A → List A
rest_of [] = []
rest_of (a ∷ more) = more

module _ {P Q : Type 0} (w : WorldAt P Q) (q p : ℕ) (f : FrameAt P) (rest : List (FrameAt P)) (front : w.lanes q p ≡ f ∷ rest) where
  -- what passes a test, without its first where the frame does
  pub seen_popped : (test : BodyAt P → Bool) (from to : ℕ) (shown : List (BodyAt P)) → filter test (bodies (w.lanes from to)) ≡ shown →
      filter test (bodies ((popped w q p rest).lanes from to)) ≡ (if is_lane from to q p && test f.body then rest_of shown else shown)
  seen_popped test from to shown s = by (is_lane from to q p) (test f.body) refl refl
    where
      by : (a b : Bool) → is_lane from to q p ≡ a → test f.body ≡ b →
          filter test (bodies (if a then rest else w.lanes from to)) ≡ (if a && b then rest_of shown else shown)
      by true true e g =
          let l : w.lanes from to ≡ f ∷ rest = at_pop test q p f rest w.lanes front from to e in
          let h : f.body ∷ filter test (bodies rest) ≡ shown = rw (l, g) at s in
          ap rest_of h
      by true false e g =
          let l : w.lanes from to ≡ f ∷ rest = at_pop test q p f rest w.lanes front from to e in
          rw (l, g) at s
      by false b e g = s

  -- an end that the frame isn't about
  pub popped_apart : (o : Seat P) (d : Side P) → is_same_end (subject_of f.body) d.id ≡ false → Shows w o d → Shows (popped w q p rest) o d
  popped_apart o d apart s = record {
    mains = s.mains;
    olds = s.olds;
    frames = λ from to c. pop_unseen (goes_to d.id c) q p f rest w.lanes front (goes_apart d.id c f.body apart) from to ∙ s.frames from to c;
    claims = λ from to. pop_unseen (is_claim d.id) q p f rest w.lanes front (claim_apart d.id f.body apart) from to ∙ s.claims from to;
    gives = λ from to. pop_unseen (is_give d.id) q p f rest w.lanes front (give_apart d.id f.body apart) from to ∙ s.gives from to;
  }

  -- the frames that are left are about ends
  below_rest : (rs : List (FrameAt P)) → rs ≡ f ∷ rest → AllByRecursion (λ b. (subject_of b).side < 2) (bodies rs) → AllByRecursion (λ b. (subject_of b).side < 2) (bodies rest)
  below_rest [] e a = cc
  below_rest (r ∷ rs) e a = let i : rs ≡ rest = cc e in rw (← i) a.1

  -- the other frames are still about ends
  pub popped_proper : AreProper w.lanes → AreProper (popped w q p rest).lanes
  popped_proper proper from to = by (is_lane from to q p)
    where
      by : (a : Bool) → AllByRecursion (λ b. (subject_of b).side < 2) (bodies (if a then rest else w.lanes from to))
      by true = below_rest (w.lanes q p) front (proper q p)
      by false = proper from to

-- what is no Claim and no Give
abbrev pub IsStream : {P : Type 0} → BodyAt P → Type 0
IsStream (Carry to conn number taken msg) = ⊤
IsStream (Fin to conn number) = ⊤
IsStream (Signal to conn party taken) = ⊤
IsStream (Ack of conn) = ⊤
IsStream (Claim of) = ⊥
IsStream (Give end resend) = ⊥
IsStream (Open sess) = ⊥

-- a frame of a stream is no Claim
pub stream_claims : {P : Type 0} → (id : EndId) (b : BodyAt P) → IsStream b → is_claim id b ≡ false
stream_claims id (Carry to conn number taken msg) i = refl
stream_claims id (Fin to conn number) i = refl
stream_claims id (Claim of) i = absurd i
stream_claims id (Signal to conn party taken) i = refl
stream_claims id (Ack of conn) i = refl
stream_claims id (Give end resend) i = absurd i
stream_claims id (Open sess) i = absurd i

-- and no Give
pub stream_gives : {P : Type 0} → (id : EndId) (b : BodyAt P) → IsStream b → is_give id b ≡ false
stream_gives id (Carry to conn number taken msg) i = refl
stream_gives id (Fin to conn number) i = refl
stream_gives id (Claim of) i = refl
stream_gives id (Signal to conn party taken) i = refl
stream_gives id (Ack of conn) i = refl
stream_gives id (Give end resend) i = absurd i
stream_gives id (Open sess) i = absurd i

-- it goes to the end under that number alone
abbrev pub GoesUnder : {P : Type 0} → EndId → ℕ → BodyAt P → Type 0
GoesUnder id n b = (c : ℕ) → goes_to id c b ≡ (c == n)

-- the first frame of the live stream
pub popped_live : {P Q : Type 0} → (w : WorldAt P Q) (o : Seat P) (r : Side P) (f : FrameAt P) (rest : List (FrameAt P)) (left : List (BodyAt P)) →
    w.lanes (source_for o r.seat) (taker_of r.seat) ≡ f ∷ rest → IsStream f.body → GoesUnder r.id (coming_of r.seat) f.body →
    old_in r.seat r.old (source_for o r.seat) (taker_of r.seat) (coming_of r.seat) ≡ [] → r.live ≡ f.body ∷ left →
    Shows w o r → Shows (popped w (source_for o r.seat) (taker_of r.seat) rest) o (record r { live = left })
popped_live w o r f rest left front stream goes not_old live s = record {
  mains = s.mains;
  olds = s.olds;
  frames = frames_left w o r f rest left s front (goes (coming_of r.seat) ∙ eq-eqb (coming_of r.seat) (coming_of r.seat) refl) (λ c e. goes c ∙ e) not_old live;
  claims = λ from to. pop_unseen (is_claim r.id) (source_for o r.seat) (taker_of r.seat) f rest w.lanes front (stream_claims r.id f.body stream) from to ∙ s.claims from to;
  gives = λ from to. pop_unseen (is_give r.id) (source_for o r.seat) (taker_of r.seat) f rest w.lanes front (stream_gives r.id f.body stream) from to ∙ s.gives from to;
}

-- the first frame under the number of a Signalled end
pub popped_old : {P Q : Type 0} → (w : WorldAt P Q) (o : Seat P) (id : EndId) (place : P) (at to : ℕ) (e : EndAt P) (ds : List (BodyAt P)) (f : FrameAt P) (rest : List (FrameAt P)) (left live : List (BodyAt P)) →
    w.lanes e.peer at ≡ f ∷ rest → IsStream f.body → GoesUnder id e.conn f.body →
    Shows w o (side_of id place (signalled at to e ds) (f.body ∷ left) live) →
    Shows (popped w e.peer at rest) o (side_of id place (signalled at to e ds) left live)
popped_old {P} {Q} w o id place at to e ds f rest left live front stream goes s = record {
  mains = s.mains;
  olds = s.olds;
  frames = λ p q c. seen_popped w e.peer at f rest front (goes_to id c) p q _ (s.frames p q c) ∙ rw (goes c) (by_key p q c);
  claims = λ p q. pop_unseen (is_claim id) e.peer at f rest w.lanes front (stream_claims id f.body stream) p q ∙ s.claims p q;
  gives = λ p q. pop_unseen (is_give id) e.peer at f rest w.lanes front (stream_gives id f.body stream) p q ∙ s.gives p q;
}
  where
    by : (lives : List (BodyAt P)) (k : Bool) →
        (if k then rest_of ((if k then f.body ∷ left else []) ++ lives) else (if k then f.body ∷ left else []) ++ lives)
        ≡ (if k then left else []) ++ lives
    by lives true = refl
    by lives false = refl

    by_key : (p q c : ℕ) →
        (if is_lane p q e.peer at && (c == e.conn)
        then rest_of (old_in (signalled at to e ds) (f.body ∷ left) p q c ++ live_in o (side_of id place (signalled at to e ds) left live) p q c)
        else old_in (signalled at to e ds) (f.body ∷ left) p q c ++ live_in o (side_of id place (signalled at to e ds) left live) p q c)
        ≡ old_in (signalled at to e ds) left p q c ++ live_in o (side_of id place (signalled at to e ds) left live) p q c
    by_key p q c = by (live_in o (side_of id place (signalled at to e ds) left live) p q c) (is_lane p q e.peer at && (c == e.conn))
