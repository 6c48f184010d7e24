-- A Carry or a Fin that meets an old record of its number is dropped.
use Rattle.std.proofs.Common.{◌≡◌, ℕ, List, [], ◌∷◌, ◌++◌, refl, sym, ap, ◌∙◌}
use Rattle.std.specs.Prelude.{⊤, Bool, false, Some, None}
use Rattle.std.proofs.lemmas.Bool.{eq-eqb}
use Rattle.sj_base.specs.declared.EndId.{EndId}
use Rattle.sj_rules.specs.Record.{EndAt, BodyAt, Carry, Fin, Claim, Signal, Ack, Give, Open, Parked, Signalled}
use Rattle.sj_rules.specs.Node.{NodeAt, comes, quietly}
use Rattle.sj_rules.specs.Seat.{Seat, parked, claimed, signalled, given, gone, side_of}
use Rattle.sj_rules.specs.PlainSide.{PlainSide}
use Rattle.sj_rules.specs.Linked.{subject_of}
use Rattle.sj_rules.specs.Numbers.{Pace, level, ahead, behind, by_ack, by_signal, NumbersFit, is_over}
use Rattle.sj_rules.specs.Streams.{AreDropped, ComesLoose, signal_of}
use Rattle.sj_rules.specs.Invariant.{IsSound}
use Rattle.sj_rules.specs.Coming.{Comes, AreOld, explanation}
use Rattle.sj_world_lemmas.proofs.LeadLemmas.{behind_is_signalled, with_live}

-- a Carry or a Fin
abbrev pub IsPlain : {P : Type 0} → BodyAt P → Type 0
IsPlain (Carry to conn number taken msg) = ⊤
IsPlain (Fin to conn number) = ⊤
IsPlain _ = ⊥

-- the connection number of a frame
abbrev pub conn_under : {P : Type 0} → BodyAt P → ℕ
conn_under (Carry to conn number taken msg) = conn
conn_under (Fin to conn number) = conn
conn_under (Signal to conn party taken) = conn
conn_under (Ack of conn) = conn
conn_under (Claim of) = 0
conn_under (Give e resend) = e.conn
conn_under (Open sess) = 0

-- a mark that begins with neither
abbrev pub IsNotPlain : {P : Type 0} → List (BodyAt P) → Type 0
IsNotPlain [] = ⊤
IsNotPlain (Carry to conn number taken msg ∷ bs) = ⊥
IsNotPlain (Fin to conn number ∷ bs) = ⊥
IsNotPlain (b ∷ bs) = ⊤

-- the first of what is dropped
pub record FirstDropped {P : Type 0} (to : EndId) (conn : ℕ) (over : Bool) (mark : List (BodyAt P)) (f : BodyAt P) (rest : List (BodyAt P)) : Type 0 where
  pub to_is : subject_of f ≡ to
  pub conn_is : conn_under f ≡ conn
  pub comes : ComesLoose to conn over mark rest

-- a Carry or Fin is not the mark
not_in_mark : {P : Type 0} → (f : BodyAt P) (rest mark : List (BodyAt P)) → IsPlain f → IsNotPlain mark → f ∷ rest ≡ mark → ⊥
not_in_mark (Carry d c n t m) rest mark p q e = rw (← e) at q
not_in_mark (Fin d c n) rest mark p q e = rw (← e) at q
not_in_mark f rest mark p q e = p

-- the first is among what is dropped
first_in : {P : Type 0} → (to : EndId) (conn : ℕ) (over : Bool) (mark : List (BodyAt P)) (f : BodyAt P) (rest dropped : List (BodyAt P)) → IsPlain f → IsNotPlain mark →
    f ∷ rest ≡ dropped ++ mark → AreDropped to conn over dropped → FirstDropped to conn over mark f rest
first_in to conn over mark f rest [] p q e a = absurd (not_in_mark f rest mark p q e)
first_in {P} to conn over mark f rest (Carry d c n t m ∷ bs) p q e a =
    let same : ◌≡◌ {A = BodyAt P} f (Carry d c n t m) = cc e in
    record { to_is = ap subject_of same ∙ a.0; conn_is = ap conn_under same ∙ a.1; comes = record { dropped = bs; split = cc e; are = a.2 } }
first_in {P} to conn over mark f rest (Fin d c n ∷ bs) p q e a =
    let same : ◌≡◌ {A = BodyAt P} f (Fin d c n) = cc e in
    let none : bs ≡ [] = a.3 in
    record { to_is = ap subject_of same ∙ a.0; conn_is = ap conn_under same ∙ a.1; comes = record { dropped = bs; split = cc e; are = rw none tt } }
first_in to conn over mark f rest (b ∷ bs) p q e a = absurd a

-- the same of the whole stream
pub first_dropped : {P : Type 0} → (to : EndId) (conn : ℕ) (over : Bool) (mark : List (BodyAt P)) (f : BodyAt P) (rest : List (BodyAt P)) → IsPlain f → IsNotPlain mark →
    ComesLoose to conn over mark (f ∷ rest) → FirstDropped to conn over mark f rest
first_dropped to conn over mark f rest p q l = first_in to conn over mark f rest l.dropped p q l.split l.are

-- the row, at either old record
parked_row : {P Q : Type 0} → (pick : ℕ → ℕ → ℕ) (n : NodeAt P Q) (f : BodyAt P) (e : EndAt P) → IsPlain f →
    n.old (subject_of f) ≡ Some (Parked e) → conn_under f ≡ e.conn → comes pick n e.peer f ≡ Some (quietly n)
parked_row pick n (Carry d c k t m) e p old conn =
    rw (old, eq-eqb e.conn c (sym conn), eq-eqb e.peer e.peer refl)
parked_row pick n (Fin d c k) e p old conn =
    rw (old, eq-eqb e.conn c (sym conn), eq-eqb e.peer e.peer refl)
parked_row pick n f e p old conn = absurd p

-- the same at a Signalled record
signalled_row : {P Q : Type 0} → (pick : ℕ → ℕ → ℕ) (n : NodeAt P Q) (f : BodyAt P) (e : EndAt P) (to : ℕ) → IsPlain f →
    n.old (subject_of f) ≡ Some (Signalled e to) → conn_under f ≡ e.conn → comes pick n e.peer f ≡ Some (quietly n)
signalled_row pick n (Carry d c k t m) e to p old conn =
    rw (old, eq-eqb e.conn c (sym conn), eq-eqb e.peer e.peer refl)
signalled_row pick n (Fin d c k) e to p old conn =
    rw (old, eq-eqb e.conn c (sym conn), eq-eqb e.peer e.peer refl)
signalled_row pick n f e to p old conn = absurd p

module _ {P Q : Type 0} (IsOver : P → Type 0) (pick : ℕ → ℕ → ℕ) (n : NodeAt P Q) (x y : PlainSide P) (sid rid : EndId) (ps pr : P) (s : Seat P)
    (so sl : List (BodyAt P)) (b : ℕ) (e : EndAt P) (f : BodyAt P) (plain : IsPlain f) where
  -- the first that comes to a Parked end
  first_to_parked : (t : Seat P) (rest : List (BodyAt P)) → NumbersFit level t (parked b e) → Comes level rid x y t (parked b e) (f ∷ rest) →
      (subject_of f ≡ rid) × (conn_under f ≡ e.conn) × Comes level rid x y t (parked b e) rest
  first_to_parked gone rest n c = absurd (cc n.1)
  first_to_parked (given u v g None ds) rest n c =
      let d : FirstDropped rid e.conn false [] f rest = first_dropped rid e.conn false [] f rest plain tt c.1 in
      (d.to_is, d.conn_is, (tt, d.comes))
  first_to_parked (given u v g (Some k) ds) rest n c = absurd (cc c.0)
  first_to_parked t rest n c =
      let d : FirstDropped rid e.conn (is_over t) (signal_of rid e.conn x.taken t) f rest =
      first_dropped rid e.conn (is_over t) (signal_of rid e.conn x.taken t) f rest plain tt c in
      (d.to_is, d.conn_is, d.comes)

  -- the same where its Claim is on the way
  first_to_claimed : (u : ℕ) (t : Seat P) (rest : List (BodyAt P)) → NumbersFit level t (claimed b u e) → Comes level rid x y t (claimed b u e) (f ∷ rest) →
      (subject_of f ≡ rid) × (conn_under f ≡ e.conn) × Comes level rid x y t (claimed b u e) rest
  first_to_claimed u gone rest n c = absurd (cc n.1)
  first_to_claimed u (given v w g None ds) rest n c = first_to_parked (given v w g None ds) rest n c
  first_to_claimed u (given v w g (Some k) ds) rest n c = first_to_parked (given v w g (Some k) ds) rest n c
  first_to_claimed u t rest n c = first_to_parked t rest n c

  -- at an end that is Parked, and nobody has taken its session message
  pub drops_parked : (pace : Pace) (ro rest : List (BodyAt P)) → n.old rid ≡ Some (Parked e) →
      IsSound IsOver pace x y (side_of sid ps s so sl) (side_of rid pr (parked b e) ro (f ∷ rest)) →
      (comes pick n e.peer f ≡ Some (quietly n)) × IsSound IsOver pace x y (side_of sid ps s so sl) (side_of rid pr (parked b e) ro rest)
  drops_parked level ro rest old sound =
      let c : (subject_of f ≡ rid) × (conn_under f ≡ e.conn) × Comes level rid x y s (parked b e) rest = first_to_parked s rest sound.numbers sound.there.comes in (
        parked_row pick n f e plain (ap n.old c.0 ∙ old) c.1,
        with_live IsOver level x y sid rid ps pr s (parked b e) so sl ro (f ∷ rest) rest sound c.2,
      )
  drops_parked (ahead c) ro rest old sound = absurd (behind_is_signalled c s (parked b e) sound.numbers)
  drops_parked (behind c) ro rest old sound = absurd (cc sound.there.comes.0)

  -- at one whose Claim is on the way
  pub drops_claimed : (pace : Pace) (u : ℕ) (ro rest : List (BodyAt P)) → n.old rid ≡ Some (Parked e) →
      IsSound IsOver pace x y (side_of sid ps s so sl) (side_of rid pr (claimed b u e) ro (f ∷ rest)) →
      (comes pick n e.peer f ≡ Some (quietly n)) × IsSound IsOver pace x y (side_of sid ps s so sl) (side_of rid pr (claimed b u e) ro rest)
  drops_claimed level u ro rest old sound =
      let c : (subject_of f ≡ rid) × (conn_under f ≡ e.conn) × Comes level rid x y s (claimed b u e) rest = first_to_claimed u s rest sound.numbers sound.there.comes in (
        parked_row pick n f e plain (ap n.old c.0 ∙ old) c.1,
        with_live IsOver level x y sid rid ps pr s (claimed b u e) so sl ro (f ∷ rest) rest sound c.2,
      )
  drops_claimed (ahead c) u ro rest old sound = absurd (behind_is_signalled c s (claimed b u e) sound.numbers)
  drops_claimed (behind c) u ro rest old sound = absurd (cc sound.there.comes.0)

  -- what explains where s stands is no Carry or Fin
  explained_not_plain : (pace : Pace) (t : Seat P) → IsNotPlain (explanation pace rid e.conn x t)
  explained_not_plain level gone = tt
  explained_not_plain level t = tt
  explained_not_plain (ahead by_ack) t = tt
  explained_not_plain (ahead by_signal) t = tt
  explained_not_plain (behind c) t = tt

  -- the first of an old stream
  first_of_old : (pace : Pace) (u : ℕ) (dr rest : List (BodyAt P)) → AreOld pace rid x s (signalled b u e dr) (f ∷ rest) →
      (subject_of f ≡ rid) × (conn_under f ≡ e.conn) × AreOld pace rid x s (signalled b u e dr) rest
  first_of_old (behind c) u dr rest o = absurd (cc o)
  first_of_old level u dr rest o =
      let d : FirstDropped rid e.conn (is_over s) (explanation level rid e.conn x s) f rest =
      first_dropped rid e.conn (is_over s) (explanation level rid e.conn x s) f rest plain (explained_not_plain level s) o in
      (d.to_is, d.conn_is, d.comes)
  first_of_old (ahead c) u dr rest o =
      let d : FirstDropped rid e.conn (is_over s) (explanation (ahead c) rid e.conn x s) f rest =
      first_dropped rid e.conn (is_over s) (explanation (ahead c) rid e.conn x s) f rest plain (explained_not_plain (ahead c) s) o in
      (d.to_is, d.conn_is, d.comes)

  -- at one that is Signalled, under its own number
  pub drops_signalled : (pace : Pace) (u : ℕ) (dr rest rl : List (BodyAt P)) → n.old rid ≡ Some (Signalled e u) →
      IsSound IsOver pace x y (side_of sid ps s so sl) (side_of rid pr (signalled b u e dr) (f ∷ rest) rl) →
      (comes pick n e.peer f ≡ Some (quietly n)) × IsSound IsOver pace x y (side_of sid ps s so sl) (side_of rid pr (signalled b u e dr) rest rl)
  drops_signalled pace u dr rest rl old sound =
      let c : (subject_of f ≡ rid) × (conn_under f ≡ e.conn) × AreOld pace rid x s (signalled b u e dr) rest = first_of_old pace u dr rest sound.there.old in (
        signalled_row pick n f e u plain (ap n.old c.0 ∙ old) c.1,
        record {
          others = sound.others;
          numbers = sound.numbers;
          hops = sound.hops;
          there = record { fits = sound.there.fits; place = sound.there.place; resend = sound.there.resend; comes = sound.there.comes; old = c.2 };
          back = record { fits = sound.back.fits; place = sound.back.place; resend = sound.back.resend; comes = sound.back.comes; old = sound.back.old };
        },
      )
