-- A delivery: its row at the party's tables, and what it leaves of all other ends.
use Rattle.std.proofs.Common.{◌≡◌, ℕ, ◌-◌, ◌<◌, List, ◌∷◌, refl, sym, subst, max, ◌+◌, arith}
use Rattle.std.specs.Prelude.{Bool, true, false, ◌&&◌, ◌==◌, ◌↔◌, if◌then◌else◌, Some, None}
use Rattle.std.proofs.lemmas.Bool.{eqb-true, eqb-false, eq-eqb, ne_eqb}
use Rattle.sj_base.specs.declared.EndId.{EndId}
use Rattle.sj_rules.specs.Record.{BodyAt, Carry, Fin, Claim, Signal, Ack, Give, Open, Mail, other_end, is_same_end}
use Rattle.sj_rules.specs.Rows.{Worked}
use Rattle.sj_rules.specs.Opened.{is_open}
use Rattle.sj_rules.proofs.ArrivalLemmas.{comes_unopened}
use Rattle.sj_rules.specs.Node.{Play, NodeAt, comes, comes_or_opens, at_main, with_number}
use Rattle.sj_rules.specs.Frames.{FrameAt, is_proper}
use Rattle.sj_rules.specs.World.{WorldAt, Deliver, happens, after_event, with_lane}
use Rattle.sj_rules.specs.Seat.{Seat, Side, source_for}
use Rattle.sj_rules.specs.Shown.{Shows}
use Rattle.sj_rules.specs.PlainSide.{PlainSide}
use Rattle.sj_rules.specs.Numbers.{Pace}
use Rattle.sj_rules.specs.Linked.{subject_of, AreProper, user_of, IsParkedAt}
use Rattle.sj_world_lemmas.proofs.TableLemmas.{with_tables, same_tables}
use Rattle.sj_world_lemmas.proofs.PopLemmas.{popped, popped_apart, popped_proper, IsStream, GoesUnder}
use Rattle.sj_world_lemmas.proofs.PostLemmas.{with_posts, posts_apart, posts_proper, AreMails, AreApart, mails_by}
use Rattle.sj_world_lemmas.proofs.OutcomeLemmas.{Outcome}
use Rattle.sj_world_lemmas.proofs.SessionLaws.{IsDeferrable}

-- ends

-- an end is itself
pub same_end : (e : EndId) → is_same_end e e ≡ true
same_end e = simp (eq-eqb e.sess e.sess refl, eq-eqb e.side e.side refl)

-- with false
pub and_false : (a : Bool) → (a && false) ≡ false
and_false true = refl
and_false false = refl

-- an end isn't the other one
pub not_other : (id : EndId) → id.side < 2 → is_same_end id (other_end id) ≡ false
not_other id low =
    let e : (id.side == 1 - id.side) ≡ false = ne_eqb id.side (1 - id.side) (λ i. omega (arith, low, i)) in
    rw e (and_false (id.sess == id.sess))

-- nor is the other one this
pub other_not : (id : EndId) → id.side < 2 → is_same_end (other_end id) id ≡ false
other_not id low =
    let e : (1 - id.side == id.side) ≡ false = ne_eqb (1 - id.side) id.side (λ i. omega (arith, low, i)) in
    rw e (and_false (id.sess == id.sess))

-- ends of other sessions
pub apart_from : (d id : EndId) → (d.sess == id.sess) ≡ false → is_same_end d id ≡ false
apart_from d id e = rw e refl

-- the same the other way round
pub apart_back : (d id : EndId) → (d.sess == id.sess) ≡ false → is_same_end id d ≡ false
apart_back d id e =
    let n : d.sess ≡ id.sess → ⊥ = eqb-false d.sess id.sess e in
    let b : (id.sess == d.sess) ≡ false = ne_eqb id.sess d.sess (λ i. n (sym i)) in
    rw b refl

-- frames

-- the connection number of a frame
abbrev pub number_of : {P : Type 0} → BodyAt P → ℕ
number_of (Carry to conn number taken msg) = conn
number_of (Fin to conn number) = conn
number_of (Claim of) = 0
number_of (Signal to conn party taken) = conn
number_of (Ack of conn) = conn
number_of (Give e resend) = 0
number_of (Open sess) = 0

-- a frame goes to its end under its number
pub goes_under : {P : Type 0} → (b : BodyAt P) → IsStream b → GoesUnder (subject_of b) (number_of b) b
goes_under (Carry to conn number taken msg) i c = rw (same_end to) refl
goes_under (Fin to conn number) i c = rw (same_end to) refl
goes_under (Claim of) i c = absurd i
goes_under (Signal to conn party taken) i c = rw (same_end to) refl
goes_under (Ack of conn) i c = rw (same_end of) refl
goes_under (Give e resend) i c = absurd i
goes_under (Open sess) i c = absurd i

-- what may be deferred is a frame of a stream
pub deferrable_stream : {P : Type 0} → (b : BodyAt P) → IsDeferrable b → IsStream b
deferrable_stream (Carry to conn number taken msg) i = tt
deferrable_stream (Fin to conn number) i = tt
deferrable_stream (Claim of) i = absurd i
deferrable_stream (Signal to conn party taken) i = tt
deferrable_stream (Ack of conn) i = tt
deferrable_stream (Give e resend) i = absurd i
deferrable_stream (Open sess) i = absurd i

-- a frame that meets no old record of its number
pub comes_to_main : {P Q : Type 0} → (pick : ℕ → ℕ → ℕ) (n : NodeAt P Q) (q : ℕ) (b : BodyAt P) → IsDeferrable b →
    with_number (number_of b) (n.old (subject_of b)) ≡ None →
    comes pick n q b ≡ at_main pick n q (subject_of b) b (n.main (subject_of b))
comes_to_main pick n q (Carry to conn number taken msg) i e = rw e refl
comes_to_main pick n q (Fin to conn number) i e = rw e refl
comes_to_main pick n q (Claim of) i e = absurd i
comes_to_main pick n q (Signal to conn party taken) i e = rw e refl
comes_to_main pick n q (Ack of conn) i e = absurd i
comes_to_main pick n q (Give end resend) i e = absurd i
comes_to_main pick n q (Open sess) i e = absurd i

-- the front frame of the lane from q leads there, where it is within the limits
abbrev pub LeadsTo : {P Q : Type 0} → Play P Q → (ℕ → ℕ → ℕ) → WorldAt P Q → (q at : ℕ) → WorldAt P Q → Type 0
LeadsTo {P} {Q} play pick w q at to = (g : FrameAt P) (more : List (FrameAt P)) → w.lanes q at ≡ g ∷ more → is_proper play.parties g ≡ true → happens play pick w at (Deliver q) ≡ Some to

-- what fits a row of an end that is there is no Open
pub row_unopened : {P Q : Type 0} → (pick : ℕ → ℕ → ℕ) (n : NodeAt P Q) (q : ℕ) (b : BodyAt P) (done : Worked P (NodeAt P Q)) → comes pick n q b ≡ Some done → is_open b ≡ false
row_unopened pick n q (Carry to conn number taken msg) done e = refl
row_unopened pick n q (Fin to conn number) done e = refl
row_unopened pick n q (Claim of) done e = refl
row_unopened pick n q (Signal to conn party taken) done e = refl
row_unopened pick n q (Ack of conn) done e = refl
row_unopened pick n q (Give end resend) done e = refl
row_unopened pick n q (Open sess) done e = absurd (cc e)

-- it is a step
pub is_step : {P Q : Type 0} → (play : Play P Q) (pick : ℕ → ℕ → ℕ) (w : WorldAt P Q) (q at : ℕ) (f : FrameAt P) (rest : List (FrameAt P)) (done : Worked P (NodeAt P Q)) →
    w.lanes q at ≡ f ∷ rest → comes pick (w.nodes at) q f.body ≡ Some done →
    LeadsTo play pick w q at (after_event w at (max (w.nodes at).clock f.clock + 1) (with_lane q at rest w.lanes) done)
is_step play pick w q at f rest done front row g more there proper =
    let same : g ≡ f = cc (front, there) in
    let own : is_proper play.parties f ≡ true = subst (λ x. is_proper play.parties x ≡ true) same proper in
    let plain : comes_or_opens play.blank pick (w.nodes at) q f.body ≡ comes pick (w.nodes at) q f.body = comes_unopened play.blank pick (w.nodes at) q f.body (row_unopened pick (w.nodes at) q f.body done row) in
    rw (front, own, plain, row) refl

-- parties use and keep the end as before
abbrev pub IsAlike : {P : Type 0} → Seat P → Seat P → Type 0
IsAlike seat seat' = (user_of seat' ≡ user_of seat) × ((keeper : ℕ) → IsParkedAt keeper seat ↔ IsParkedAt keeper seat')

-- what a delivery leaves, where the two ends were in these seats
pub record Delivered {P Q : Type 0} (IsOver : P → Type 0) (play : Play P Q) (pick : ℕ → ℕ → ℕ) (w : WorldAt P Q) (q at : ℕ) (id : EndId) (x y : PlainSide P) (s r : Seat P) : Type 0 where
  pub to : WorldAt P Q
  pub step : LeadsTo play pick w q at to
  pub programs : (p : ℕ) → (to.nodes p).program ≡ (w.nodes p).program
  pub pace : Pace
  pub other : Side P
  pub side : Side P
  pub outcome : Outcome IsOver w to id pace x y other side
  pub alike : IsAlike r side.seat
  pub other_alike : IsAlike s other.seat

-- programs are as before
pub programs_after : {P Q : Type 0} → (w : WorldAt P Q) (at clock : ℕ) (n : NodeAt P Q) → n.program ≡ (w.nodes at).program →
    (p : ℕ) → ((with_tables w at clock n).nodes p).program ≡ (w.nodes p).program
programs_after w at clock n e p = by (p == at) refl
  where
    by : (k : Bool) → (p == at) ≡ k → (if k then record n { clock = clock } else w.nodes p).program ≡ (w.nodes p).program
    by true i = let j : p ≡ at = eqb-true p at i in rw j e
    by false i = refl

-- the same end, seen beside another seat of the other
pub shown_beside : {P Q : Type 0} → (w : WorldAt P Q) (o o' : Seat P) (d : Side P) → source_for o' d.seat ≡ source_for o d.seat → Shows w o d → Shows w o' d
shown_beside w o o' d e s = record {
  mains = λ p. rw e (s.mains p);
  olds = s.olds;
  frames = λ p q c. rw e (s.frames p q c);
  claims = s.claims;
  gives = s.gives;
}

module _ {P Q : Type 0} (w : WorldAt P Q) (q at : ℕ) (f : FrameAt P) (rest : List (FrameAt P)) (front : w.lanes q at ≡ f ∷ rest) (clock : ℕ) (n : NodeAt P Q) (posts : List (Mail P))
    (id : EndId) (low : id.side < 2) (about : subject_of f.body ≡ id)
    (mains : (d : EndId) → is_same_end d id ≡ false → n.main d ≡ (w.nodes at).main d)
    (olds : (d : EndId) → is_same_end d id ≡ false → n.old d ≡ (w.nodes at).old d) where
  -- ends of other sessions are shown as before
  pub apart_after : AreMails (λ b. (subject_of b).sess ≡ id.sess) posts → (o : Seat P) (d : Side P) → (d.id.sess == id.sess) ≡ false → Shows w o d →
      Shows (with_posts (with_tables (popped w q at rest) at clock n) at clock posts) o d
  apart_after ours o d away s =
      let none : AreApart d.id posts =
      mails_by (λ b. (subject_of b).sess ≡ id.sess) (λ b. is_same_end (subject_of b) d.id ≡ false)
      (λ b e. apart_back d.id (subject_of b) (rw e away)) posts ours in
      posts_apart (with_tables (popped w q at rest) at clock n) at clock posts o d none
      (same_tables (popped w q at rest) at clock n o d (mains d.id (apart_from d.id id away)) (olds d.id (apart_from d.id id away))
      (popped_apart w q at f rest front o d (rw about (apart_back d.id id away)) s))

  -- frames are still about ends
  pub proper_after : AreMails (λ b. (subject_of b).side < 2) posts → AreProper w.lanes →
      AreProper (with_posts (with_tables (popped w q at rest) at clock n) at clock posts).lanes
  proper_after sides proper = posts_proper (with_tables (popped w q at rest) at clock n) at clock posts sides (popped_proper w q at f rest front proper)

  -- the other end, before the posts
  pub other_before : (o : Seat P) (s : Side P) → s.id ≡ other_end id → Shows w o s → Shows (with_tables (popped w q at rest) at clock n) o s
  other_before o s name shows =
      let e : is_same_end s.id id ≡ false = rw name (other_not id low) in
      same_tables (popped w q at rest) at clock n o s (mains s.id e) (olds s.id e)
      (popped_apart w q at f rest front o s (rw (about, name) (not_other id low)) shows)
