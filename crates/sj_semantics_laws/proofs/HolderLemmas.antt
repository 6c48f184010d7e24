-- An end has one holder at most, and none once it is closed or on its way.
use Rattle.std.proofs.Common.{◌≡◌, ◌≢◌, ℕ, ◌≤◌, [], slice_get, Some, option_and_then, sum_by, ap, sym, ◌∙◌, subst, arith}
use Rattle.sj_base.specs.declared.EndId.{EndId}
use Rattle.sj_semantics.specs.declared.Want.{Want}
use Rattle.sj_semantics.specs.declared.Want.TheVariants as wants
use Rattle.sj_semantics.specs.Program.{Program}
use Rattle.sj_semantics.specs.Wants.{want_of}
use Rattle.sj_semantics.specs.Steps.{closed_of}
use Rattle.sj_semantics.specs.World.{World, Change, plain_change, change_by, change_of_program, change_of, changed_world, act_of}
use Rattle.sj_semantics_laws.specs.Bound.{IsBound, UsesBound}
use Rattle.sj_semantics_laws.specs.Unshared.{bindings_of, carried_in, claims_on, IsUnshared}
use Rattle.sj_semantics_laws.proofs.AlteredLemmas.{sum_by-altered, one-le-sum_by, two-le-sum_by}
use Rattle.sj_semantics_laws.proofs.BoundLemmas.{is_end-self}
use Rattle.sj_semantics_laws.proofs.ChangeLemmas.{rests_on, uses_bound}
use Rattle.sj_semantics_laws.proofs.ClaimLemmas.{one_if}
use Rattle.sj_semantics_laws.proofs.CommuteLemmas.{Doing, doing_of}
use Rattle.sj_semantics_laws.proofs.FreesLemmas.{want_frees}

abbrev pub binds : EndId → Program → ℕ
binds e g = bindings_of e g.ends

pub one_holder : (w : World) (p q : ℕ) (g h : Program) (e : EndId) → IsUnshared w → slice_get w.parties p ≡ Some g → slice_get w.parties q ≡ Some h → IsBound e g.ends → IsBound e h.ends → p ≢ q → ⊥
one_holder w p q g h e one gp hq bg bh other = absurd (omega (arith, one.once e, bg.some_name, bh.some_name, two-le-sum_by (binds e) w.parties p q g h gp hq other))

pub none_on_the_way : (w : World) (p : ℕ) (g : Program) (e : EndId) → IsUnshared w → 1 ≤ sum_by (carried_in e) w.sessions → slice_get w.parties p ≡ Some g → bindings_of e g.ends ≡ 0
none_on_the_way w p g e one carried there = omega (arith, one.once e, one-le-sum_by (binds e) w.parties p g there)

closed_frees : (w v : World) (p : ℕ) (e : EndId) (a : Doing w p v) (want : Want) → IsUnshared w → want ≡ wants.Close e → want_of a.program ≡ Some want → change_by w p a.program want ≡ Some a.change → claims_on e (changed_world w p a.change) ≡ 0
closed_frees w v p e a want one it wants_it by_it =
    let close = subst (λ (t : Want). want_of a.program ≡ Some t) it wants_it in
    let made : Some (plain_change (closed_of a.program) []) ≡ Some a.change = subst (λ (t : Want). change_by w p a.program t ≡ Some a.change) it by_it in
    let same : plain_change (closed_of a.program) [] ≡ a.change = cc in
    subst (λ (c : Change). claims_on e (changed_world w p c) ≡ 0) same
    (omega (
      arith,
      one.once e,
      want_frees e a.program (wants.Close e) close,
      ap {B = ℕ} one_if (is_end-self e),
      sum_by-altered (binds e) w.parties p (λ g. closed_of a.program) a.program a.there,
    ))

pub closed_nowhere : (w v : World) (p : ℕ) (g : Program) (e : EndId) → IsUnshared w → slice_get w.parties p ≡ Some g → want_of g ≡ Some (wants.Close e) → act_of w p ≡ Some v → claims_on e v ≡ 0
closed_nowhere w v p g e one there wants_it h =
    let a = doing_of w p v h in
    let r = rests_on w p a.program a.change a.made in
    let it : a.program ≡ g = (let both : Some a.program ≡ Some g = sym a.there ∙ there in cc) in
    let same : r.want ≡ wants.Close e = (let both : Some r.want ≡ Some (wants.Close e) = sym r.wants_it ∙ ap want_of it ∙ wants_it in cc) in
    subst (λ (t : World). claims_on e t ≡ 0) a.result (closed_frees w v p e a r.want one same r.wants_it r.by_it)

pub act_uses_bound : (w : World) (p : ℕ) (g : Program) (c : Change) → slice_get w.parties p ≡ Some g → change_of w p ≡ Some c → UsesBound g.ends c.uses
act_uses_bound w p g c there h = uses_bound w p g c (rests_on w p g c (ap (option_and_then (change_of_program w p)) (sym there) ∙ h))
