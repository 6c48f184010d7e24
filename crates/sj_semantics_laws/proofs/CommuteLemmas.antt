-- Acts of two parties commute where no end is shared.
use Rattle.std.proofs.Common.{◌≡◌, ℕ, List, [], ◌∷◌, slice_get, Option, Some, None, option_map, option_and_then, refl, ap, sym, ◌∙◌, subst}
use Rattle.sj_base.specs.declared.EndId.{EndId}
use Rattle.sj_semantics.specs.Program.{Program}
use Rattle.sj_semantics.specs.World.{World, Change, change_of_program, changed_world, act_of}
use Rattle.sj_semantics.specs.Uses.{Use}
use Rattle.sj_semantics_laws.specs.Unshared.{IsUnshared}
use Rattle.sj_semantics_laws.proofs.AlteredLemmas.{altered_comm, slice_get-altered_other}
use Rattle.sj_semantics_laws.proofs.EndLemmas.{IsUnusedBy, AreApart, after_uses_comm, end_at-after_uses_other, next_for-after_uses}
use Rattle.sj_semantics_laws.proofs.ChangeLemmas.{LeavesParty, Rests, rests_on, change_stays}
use Rattle.sj_semantics_laws.proofs.MineLemmas.{Mine, bound, AllMine, all_mine, ends_apart}
use Rattle.sj_semantics_laws.proofs.OfferLemmas.{offers_stay, asked_stays, openings_comm}
use Rattle.sj_semantics_laws.proofs.ToComeLemmas.{opening_fits}
use Rattle.sj_semantics.specs.Requests.{after_opening}

-- what an act was: the party's program, and the change that its step made
pub record Doing (w : World) (p : ℕ) (v : World) : Type 0 where
  pub program : Program
  pub there : slice_get w.parties p ≡ Some program
  pub change : Change
  pub made : change_of_program w p program ≡ Some change
  pub result : changed_world w p change ≡ v

map_doing : (w : World) (p : ℕ) (v : World) (g : Program) (o : Option Change) → slice_get w.parties p ≡ Some g → change_of_program w p g ≡ o → option_map (changed_world w p) o ≡ Some v → Doing w p v
map_doing w p v g None there made h = cc
map_doing w p v g (Some c) there made h = record { program = g; there = there; change = c; made = made; result = cc }

then_doing : (w : World) (p : ℕ) (v : World) (o : Option Program) → slice_get w.parties p ≡ o → option_map (changed_world w p) (option_and_then (change_of_program w p) o) ≡ Some v → Doing w p v
then_doing w p v None there h = cc
then_doing w p v (Some g) there h = map_doing w p v g (change_of_program w p g) there refl h

pub doing_of : (w : World) (p : ℕ) (v : World) → act_of w p ≡ Some v → Doing w p v
doing_of w p v h = then_doing w p v (slice_get w.parties p) refl h

pub act_from : (w : World) (p : ℕ) (g : Program) (c : Change) → slice_get w.parties p ≡ Some g → change_of_program w p g ≡ Some c → act_of w p ≡ Some (changed_world w p c)
act_from w p g c there made = ap (λ o. option_map (changed_world w p) (option_and_then (change_of_program w p) o)) there ∙ ap (option_map (changed_world w p)) made

rests_of : (w : World) (p : ℕ) (v : World) (a : Doing w p v) → Rests w p a.program a.change
rests_of w p v a = rests_on w p a.program a.change a.made

-- two acts, by two parties
module _ (w v u : World) (p q : ℕ) (one : IsUnshared w) (ne : p ≡ q → ⊥) (a : Doing w p v) (b : Doing w q u) where
  unused_by : (e : EndId) (us : List (EndId × Use)) → AllMine w p a.program us → Mine w q b.program e → IsUnusedBy e us
  unused_by e [] all m = tt
  unused_by e (x ∷ us) all m = (ends_apart w p q a.program b.program one ne a.there b.there x.0 e all.0 m, unused_by e us all.1 m)

  uses_apart : (us vs : List (EndId × Use)) → AllMine w p a.program us → AllMine w q b.program vs → AreApart us vs
  uses_apart us [] all others = tt
  uses_apart us (x ∷ vs) all others = (unused_by x.0 us all others.0, uses_apart us vs all others.1)

  all_of : AllMine w p a.program a.change.uses
  all_of = all_mine w p a.program a.change (rests_of w p v a)

  -- an act leaves the other party
  leaves_other : LeavesParty q b.program.ends w (changed_world w p a.change)
  leaves_other = record {
    keeps = λ e be. end_at-after_uses_other p a.change.uses w.sessions e (unused_by e a.change.uses all_of (bound be));
    next = λ e x be n. next_for-after_uses p a.change.uses w.sessions e x (unused_by e a.change.uses all_of (bound be)) n;
    protocols = refl;
    asked = asked_stays w p q a.change.opening ne;
    offers = λ c k h. offers_stay w p q a.change.opening c k ne (opening_fits w p a.program a.change (rests_of w p v a)) h;
  }

  -- after p's act, q makes the change that it would have made before
  pub still_makes : act_of (changed_world w p a.change) q ≡ Some (changed_world (changed_world w p a.change) q b.change)
  still_makes =
      act_from (changed_world w p a.change) q b.program b.change
      (slice_get-altered_other w.parties p q (λ g. a.change.program) ne ∙ b.there)
      (change_stays w (changed_world w p a.change) q b.program b.change leaves_other (rests_of w q u b))

  pub same_in_both_orders : changed_world (changed_world w p a.change) q b.change ≡ changed_world (changed_world w q b.change) p a.change
  same_in_both_orders =
      let parties = altered_comm w.parties p q (λ g. a.change.program) (λ g. b.change.program) ne in
      let sessions = after_uses_comm p q a.change.uses b.change.uses w.sessions (uses_apart a.change.uses b.change.uses all_of (all_mine w q b.program b.change (rests_of w q u b))) in
      let asked : (c : ℕ) → after_opening q b.change.opening (after_opening p a.change.opening w.requests) c ≡ after_opening p a.change.opening (after_opening q b.change.opening w.requests) c =
      λ c. openings_comm w p q a.change.opening b.change.opening c ne (opening_fits w p a.program a.change (rests_of w p v a)) (opening_fits w q b.program b.change (rests_of w q u b)) in
      λ i. record { protocols = w.protocols; parties = parties i; sessions = sessions i; requests = λ c. asked c i }

-- a world to which both orders lead
pub record Meeting (v u : World) (p q : ℕ) : Type 0 where
  pub at_last : World
  pub first_way : act_of v q ≡ Some at_last
  pub second_way : act_of u p ≡ Some at_last

pub acts_meet : (w v u : World) (p q : ℕ) → IsUnshared w → (p ≡ q → ⊥) → act_of w p ≡ Some v → act_of w q ≡ Some u → Meeting v u p q
acts_meet w v u p q one ne hp hq =
    let a = doing_of w p v hp in
    let b = doing_of w q u hq in
    record {
      at_last = changed_world (changed_world w p a.change) q b.change;
      first_way = subst (λ (t : World). act_of t q ≡ Some (changed_world (changed_world w p a.change) q b.change)) a.result (still_makes w v u p q one ne a b);
      second_way = subst (λ (t : World). act_of t p ≡ Some (changed_world (changed_world w p a.change) q b.change)) b.result
          (still_makes w u v q p one (λ e. ne (sym e)) b a ∙ ap Some (sym (same_in_both_orders w v u p q one ne a b)));
    }
