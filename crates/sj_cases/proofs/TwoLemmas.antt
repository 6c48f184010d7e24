-- Lanes of two parties are a square, in which nothing was tried in vain.
use Rattle.std.proofs.Common.{zero, suc, ◌≡◌, ℕ, List, [], ◌∷◌, length, refl, ap, arith}
use Rattle.std.specs.Prelude.{Option, None, Some, false, slice_get}
use Rattle.sj_lane.specs.declared.lane.Lanes.{Lanes}
use Rattle.sj_lane.specs.Square.{IsFresh, IsSquare, in_in}
use Rattle.sj_cases.specs.declared.forged_links.Loses.{Loses}
use Rattle.sj_cases.specs.declared.forged_links.Gives.{Gives}
use Rattle.sj_cases.specs.Two.{AreTwo, HasTwo}

-- what holds of both of two holds of the one at an index
one_of_two : {X : Type 0} (P : X → Type 0) (a b x : X) (k : ℕ) → P a → P b → slice_get (a ∷ b ∷ []) k ≡ Some x → P x
one_of_two P a b x zero first second at = let same : a ≡ x = cc at in rw (← same) first
one_of_two P a b x (suc zero) first second at = let same : b ≡ x = cc at in rw (← same) second
one_of_two P a b x (suc (suc k)) first second at = absurd (cc at)

module _ (lanes : List (Lanes Loses Gives)) (two : AreTwo lanes) where
  party : (p : ℕ) (l : Lanes Loses Gives) → slice_get lanes p ≡ Some l → HasTwo l
  party p l at = one_of_two HasTwo two.first two.second l p two.first_has two.second_has (rw (← two.all) at)

  pub two_square : IsSquare lanes
  two_square p l at =
      let has = party p l at in
      let a = l.outs.ok in let b = l.ins.ok in
      let outs = has.outs in let ins = ap length has.ins in let all = ap length two.all in
      (omega arith, omega arith)

  lane : (l : Option (Lanes Loses Gives)) (p : ℕ) (i : Gives) → ((m : Lanes Loses Gives) → l ≡ Some m → HasTwo m) → in_in l p ≡ Some i → i.vain ≡ 0
  lane None p i has at = absurd (cc at)
  lane (Some l) p i has at =
      let two = has l refl in
      one_of_two (λ (g : Gives). g.vain ≡ 0) two.first two.second i p two.first_vain two.second_vain (rw (← two.ins) at)

  pub two_fresh : IsFresh {O = Loses} {I = Gives} (λ o. None) (λ i. None) (λ o. 0) (λ i. i.vain) false lanes
  two_fresh = record {
    outs = λ p q o h. (λ t. absurd (cc t), refl);
    ins = λ p q i h. (λ t. absurd (cc t), lane (slice_get lanes q) p i (party q) h);
  }
