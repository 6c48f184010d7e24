-- Worlds that look the same; and the Held end on which a party acts.
use Rattle.std.proofs.Common.{◌≡◌, ℕ, ◌<◌, List, [], ◌++◌, refl, sym, ap, subst, ◌∙◌, append-nil, arith}
use Rattle.std.specs.Prelude.{Bool, true, false, ◌==◌, if◌then◌else◌, Some, None}
use Rattle.std.specs.List.{filter, AllByRecursion}
use Rattle.std.proofs.lemmas.Bool.{eqb-true}
use Rattle.sj_base.specs.declared.EndId.{EndId}
use Rattle.sj_rules.specs.Record.{Held, Closed, Expected, HeldAt, Mail, other_end}
use Rattle.sj_rules.specs.Node.{NodeAt}
use Rattle.sj_rules.specs.World.{WorldAt}
use Rattle.sj_rules.specs.Seat.{Seat, held, parked, claimed, signalled, given, closed, gone, Side, source_for, side_of}
use Rattle.sj_rules.specs.Shown.{Shows, bodies, goes_to, is_claim, is_give, main_shown}
use Rattle.sj_rules.specs.PlainSide.{PlainSide}
use Rattle.sj_rules.specs.Numbers.{Pace}
use Rattle.sj_rules.specs.Invariant.{IsSound}
use Rattle.sj_rules.specs.Linked.{Sessions, AreProper, subject_of, end_named}
use Rattle.sj_rules.specs.Worked.{mails_of}
use Rattle.sj_world_lemmas.proofs.TableLemmas.{with_tables}
use Rattle.sj_world_lemmas.proofs.PostLemmas.{with_posts}
use Rattle.sj_world_lemmas.proofs.SwapLemmas.{other_other}
use Rattle.sj_world_lemmas.proofs.OutcomeLemmas.{sound_at}

-- v looks as w does
pub record IsSeenAs {P Q : Type 0} (v w : WorldAt P Q) : Type 0 where
  pub mains : (p : ℕ) (d : EndId) → (v.nodes p).main d ≡ (w.nodes p).main d
  pub olds : (p : ℕ) (d : EndId) → (v.nodes p).old d ≡ (w.nodes p).old d
  pub lanes : (p q : ℕ) → bodies (v.lanes p q) ≡ bodies (w.lanes p q)

module _ {P Q : Type 0} (v w : WorldAt P Q) (seen : IsSeenAs v w) where
  -- what is shown is the same
  pub seen_shows : (o : Seat P) (d : Side P) → Shows w o d → Shows v o d
  seen_shows o d s = record {
    mains = λ p. seen.mains p d.id ∙ s.mains p;
    olds = λ p. seen.olds p d.id ∙ s.olds p;
    frames = λ p q c. ap (λ l. filter (goes_to d.id c) l) (seen.lanes p q) ∙ s.frames p q c;
    claims = λ p q. ap (λ l. filter (is_claim d.id) l) (seen.lanes p q) ∙ s.claims p q;
    gives = λ p q. ap (λ l. filter (is_give d.id) l) (seen.lanes p q) ∙ s.gives p q;
  }

  -- frames are about ends in both
  pub seen_proper : AreProper w.lanes → AreProper v.lanes
  seen_proper proper p q = subst (λ l. AllByRecursion (λ b. (subject_of b).side < 2) l) (sym (seen.lanes p q)) (proper p q)

  -- the same sessions
  abbrev pub seen_sessions : (IsOver : P → Type 0) (knows : EndId → PlainSide P) → Sessions IsOver w knows → Sessions IsOver v knows
  seen_sessions IsOver knows t = record {
    sides = t.sides;
    pace = t.pace;
    ids = t.ids;
    shows = λ e low. seen_shows (t.sides (other_end e)).seat (t.sides e) (t.shows e low);
    proper = seen_proper t.proper;
    sound = t.sound;
  }

-- a session with the same facts
pub known_sound : {P : Type 0} → (IsOver : P → Type 0) (pace : Pace) (x x' y y' : PlainSide P) (s r : Side P) → x' ≡ x → y' ≡ y → IsSound IsOver pace x y s r → IsSound IsOver pace x' y' s r
known_sound IsOver pace x x' y y' s r i j sound = subst (λ z. IsSound IsOver pace z y' s r) (sym i) (subst (λ z. IsSound IsOver pace x z s r) (sym j) sound)

-- tables that change twice at a party look as after the second change
twice_mains : {P Q : Type 0} → (w : WorldAt P Q) (at c1 c2 : ℕ) (n1 n2 : NodeAt P Q) (p : ℕ) (d : EndId) → ((with_tables w at c2 n2).nodes p).main d ≡ ((with_tables (with_tables w at c1 n1) at c2 n2).nodes p).main d
twice_mains w at c1 c2 n1 n2 p d = by (p == at)
  where
    by : (k : Bool) → (if k then record n2 { clock = c2 } else w.nodes p).main d ≡ (if k then record n2 { clock = c2 } else (if k then record n1 { clock = c1 } else w.nodes p)).main d
    by true = refl
    by false = refl

-- old records
twice_olds : {P Q : Type 0} → (w : WorldAt P Q) (at c1 c2 : ℕ) (n1 n2 : NodeAt P Q) (p : ℕ) (d : EndId) → ((with_tables w at c2 n2).nodes p).old d ≡ ((with_tables (with_tables w at c1 n1) at c2 n2).nodes p).old d
twice_olds w at c1 c2 n1 n2 p d = by (p == at)
  where
    by : (k : Bool) → (if k then record n2 { clock = c2 } else w.nodes p).old d ≡ (if k then record n2 { clock = c2 } else (if k then record n1 { clock = c1 } else w.nodes p)).old d
    by true = refl
    by false = refl

-- two changes and posts
pub seen_twice : {P Q : Type 0} → (w : WorldAt P Q) (at c1 c2 : ℕ) (n1 n2 : NodeAt P Q) (posts : List (Mail P)) →
    IsSeenAs (with_posts (with_tables w at c2 n2) at c2 posts) (with_posts (with_tables (with_tables w at c1 n1) at c2 n2) at c2 posts)
seen_twice w at c1 c2 n1 n2 posts = record { mains = twice_mains w at c1 c2 n1 n2; olds = twice_olds w at c1 c2 n1 n2; lanes = λ p q. refl }

-- with no posts
pub seen_quiet : {P Q : Type 0} → (w : WorldAt P Q) (at clock : ℕ) → IsSeenAs (with_posts w at clock []) w
seen_quiet w at clock = record { mains = λ p d. refl; olds = λ p d. refl; lanes = λ p q. by p q (p == at) }
  where
    by : (p q : ℕ) (k : Bool) → bodies (if k then w.lanes p q ++ [] else w.lanes p q) ≡ bodies (w.lanes p q)
    by p q true = ap bodies (append-nil (w.lanes p q))
    by p q false = refl

-- a Held record shows the seat
pub held_seat : {P : Type 0} → (from : ℕ) (place : P) (seat : Seat P) (p : ℕ) (h : HeldAt P) → Some (Held h) ≡ main_shown from place seat p → seat ≡ held p h
held_seat {P} from place (held at g) p h e = by (p == at) refl e
  where
    by : (k : Bool) → (p == at) ≡ k → Some (Held h) ≡ (if k then Some (Held g) else None) → held at g ≡ held p h
    by true i j = let a : p ≡ at = eqb-true p at i in let b : h ≡ g = cc j in rw (a, b) refl
    by false i j = absurd (cc j)
held_seat from place (parked at g) p h e = absurd (cc e)
held_seat {P} from place (claimed at to g) p h e = by (p == to) e
  where
    by : (k : Bool) → Some (Held h) ≡ (if k then Some (Expected at place []) else None) → claimed at to g ≡ held p h
    by true j = absurd (cc j)
    by false j = absurd (cc j)
held_seat {P} from place (signalled at to g ds) p h e = by (p == to) (mails_of from ds) e
  where
    by : (k : Bool) (l : List (Mail P)) → Some (Held h) ≡ (if k then Some (Expected at place l) else None) → signalled at to g ds ≡ held p h
    by true l j = absurd (cc j)
    by false l j = absurd (cc j)
held_seat {P} from place (given at to g r ds) p h e = by (p == to) (mails_of from ds) e
  where
    by : (k : Bool) (l : List (Mail P)) → Some (Held h) ≡ (if k then Some (Expected at place l) else None) → given at to g r ds ≡ held p h
    by true l j = absurd (cc j)
    by false l j = absurd (cc j)
held_seat {P} from place (closed at g) p h e = by (p == at) e
  where
    by : (k : Bool) → Some (Held h) ≡ (if k then Some (Closed g) else None) → closed at g ≡ held p h
    by true j = absurd (cc j)
    by false j = absurd (cc j)
held_seat from place gone p h e = absurd (cc e)

-- the session of an end in that seat
pub record Here {P Q : Type 0} (IsOver : P → Type 0) (w : WorldAt P Q) (x y : PlainSide P) (s r : Side P) (id : EndId) (seat : Seat P) : Type 0 where
  pub seat_is : r.seat ≡ seat
  pub pace : Pace
  pub sound : IsSound IsOver pace x y s (side_of id r.place seat r.old r.live)
  pub shows : Shows w s.seat (side_of id r.place seat r.old r.live)
  pub shown : Shows w seat s

-- from the invariant
pub here_at : {P Q : Type 0} → (IsOver : P → Type 0) (w : WorldAt P Q) (knows : EndId → PlainSide P) (t : Sessions IsOver w knows) (c : EndId) → c.side < 2 → (seat : Seat P) → (t.sides c).seat ≡ seat →
    Here IsOver w (knows (other_end c)) (knows c) (t.sides (other_end c)) (t.sides c) c seat
here_at {P} IsOver w knows t c low seat e =
    let r : Side P = t.sides c in
    let s : Side P = t.sides (other_end c) in
    let sound : (pace : Pace) × IsSound IsOver pace (knows (other_end c)) (knows c) s r = sound_at IsOver w knows t c low in
    record {
      seat_is = e;
      pace = sound.0;
      sound = subst (λ z. IsSound IsOver sound.0 (knows (other_end c)) (knows c) s (side_of c r.place z r.old r.live)) e (subst (λ i. IsSound IsOver sound.0 (knows (other_end c)) (knows c) s (side_of i r.place r.seat r.old r.live)) (t.ids c) sound.1);
      shows = subst (λ z. Shows w s.seat (side_of c r.place z r.old r.live)) e (subst (λ i. Shows w s.seat (side_of i r.place r.seat r.old r.live)) (t.ids c) (t.shows c low));
      shown = subst (λ z. Shows w z s) e (subst (λ d. Shows w (t.sides d).seat s) (other_other c low) (t.shows (other_end c) (omega arith)));
    }

-- the end of a Held record
pub here_held : {P Q : Type 0} → (IsOver : P → Type 0) (w : WorldAt P Q) (knows : EndId → PlainSide P) (t : Sessions IsOver w knows) (c : EndId) → c.side < 2 → (p : ℕ) (h : HeldAt P) → (w.nodes p).main c ≡ Some (Held h) →
    Here IsOver w (knows (other_end c)) (knows c) (t.sides (other_end c)) (t.sides c) c (held p h)
here_held {P} IsOver w knows t c low p h main =
    let r : Side P = t.sides c in
    let shows : Shows w (t.sides (other_end c)).seat (side_of c r.place r.seat r.old r.live) = subst (λ i. Shows w (t.sides (other_end c)).seat (side_of i r.place r.seat r.old r.live)) (t.ids c) (t.shows c low) in
    here_at IsOver w knows t c low (held p h) (held_seat (source_for (t.sides (other_end c)).seat r.seat) r.place r.seat p h (sym main ∙ shows.mains p))

-- what is known is the same
abbrev pub known_sessions : {P Q : Type 0} → (IsOver : P → Type 0) (w : WorldAt P Q) (knows knows' : EndId → PlainSide P) → ((e : EndId) → knows' e ≡ knows e) → Sessions IsOver w knows → Sessions IsOver w knows'
known_sessions IsOver w knows knows' same t = record {
  sides = t.sides;
  pace = t.pace;
  ids = t.ids;
  shows = t.shows;
  proper = t.proper;
  sound = λ n. known_sound IsOver (t.pace n) (knows (end_named n 0)) (knows' (end_named n 0)) (knows (end_named n 1)) (knows' (end_named n 1)) (t.sides (end_named n 0)) (t.sides (end_named n 1)) (same (end_named n 0)) (same (end_named n 1)) (t.sound n);
}

-- a party's program went on, and its tables are the same
pub seen_program : {P Q : Type 0} → (w : WorldAt P Q) (at clock : ℕ) (q : Q) → IsSeenAs (with_posts (with_tables w at clock (record (w.nodes at) { program = q })) at clock []) w
seen_program {P} {Q} w at clock q = record {
  mains = λ p d. by_main p d (p == at) refl;
  olds = λ p d. by_old p d (p == at) refl;
  lanes = (seen_quiet w at clock).lanes;
}
  where
    by_main : (p : ℕ) (d : EndId) (k : Bool) → (p == at) ≡ k → (if k then record (record (w.nodes at) { program = q }) { clock = clock } else w.nodes p).main d ≡ (w.nodes p).main d
    by_main p d true i = let j : p ≡ at = eqb-true p at i in rw j refl
    by_main p d false i = refl

    by_old : (p : ℕ) (d : EndId) (k : Bool) → (p == at) ≡ k → (if k then record (record (w.nodes at) { program = q }) { clock = clock } else w.nodes p).old d ≡ (w.nodes p).old d
    by_old p d true i = let j : p ≡ at = eqb-true p at i in rw j refl
    by_old p d false i = refl
