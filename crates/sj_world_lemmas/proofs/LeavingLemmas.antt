-- A Signal or an Ack that arrives at a Signalled end, which leaves as a Give: the whole row of the
-- node.
use Rattle.std.proofs.Common.{◌≡◌, ℕ, List, [], ◌∷◌, ◌++◌, refl, subst}
use Rattle.std.specs.Prelude.{Bool}
use Rattle.sj_base.specs.declared.EndId.{EndId}
use Rattle.sj_rules.specs.Record.{BodyAt, Carry, Fin, Signal, Ack}
use Rattle.sj_rules.specs.Seat.{Seat, signalled, gone}
use Rattle.sj_rules.specs.PlainSide.{PlainSide}
use Rattle.sj_rules.specs.Numbers.{level}
use Rattle.sj_rules.specs.Streams.{AreDropped, ComesLoose}
use Rattle.sj_rules.specs.Coming.{explanation}
use Rattle.sj_world_lemmas.proofs.DropLemmas.{IsPlain}
use Rattle.sj_world_lemmas.proofs.SourceLemmas.{IsSignalled}

-- a frame that is no Carry or Fin is not among what is dropped
not_in : {P : Type 0} → (to : EndId) (conn : ℕ) (over : Bool) (mark : List (BodyAt P)) (f : BodyAt P) (rest dropped : List (BodyAt P)) → (IsPlain f → ⊥) →
    f ∷ rest ≡ dropped ++ mark → AreDropped to conn over dropped → f ∷ rest ≡ mark
not_in to conn over mark f rest [] p e a = e
not_in {P} to conn over mark f rest (Carry d c n t m ∷ bs) p e a =
    let same : ◌≡◌ {A = BodyAt P} (Carry d c n t m) f = cc e in
    absurd (p (subst IsPlain same tt))
not_in {P} to conn over mark f rest (Fin d c n ∷ bs) p e a =
    let same : ◌≡◌ {A = BodyAt P} (Fin d c n) f = cc e in
    absurd (p (subst IsPlain same tt))
not_in to conn over mark f rest (b ∷ bs) p e a = absurd a

-- a frame that isn't dropped is the mark
pub not_dropped : {P : Type 0} → (to : EndId) (conn : ℕ) (over : Bool) (mark : List (BodyAt P)) (f : BodyAt P) (rest : List (BodyAt P)) → (IsPlain f → ⊥) →
    ComesLoose to conn over mark (f ∷ rest) → f ∷ rest ≡ mark
not_dropped to conn over mark f rest p l = not_in to conn over mark f rest l.dropped p l.split l.are

-- a Signal in an old stream where the numbers are equal
pub level_mark_signal : {P : Type 0} → (to : EndId) (conn : ℕ) (x : PlainSide P) (s : Seat P) (c p k : ℕ) (rest : List (BodyAt P)) →
    Signal to c p k ∷ rest ≡ explanation level to conn x s → (c ≡ conn) × IsSignalled s
level_mark_signal to conn x (signalled a t e ds) c p k rest m = (cc m, record { at = a; to = t; end = e; late = ds; is = refl })
level_mark_signal to conn x s c p k rest m = absurd (cc m)

-- there is no Ack then
pub level_mark_ack : {P : Type 0} → (to : EndId) (conn : ℕ) (x : PlainSide P) (s : Seat P) (c : ℕ) (rest : List (BodyAt P)) → Ack to c ∷ rest ≡ explanation level to conn x s → ⊥
level_mark_ack to conn x gone c rest m = cc m
level_mark_ack to conn x s c rest m = cc m
