-- Lanes of two parties of which none was used are a square, in which nothing was tried in vain and no fault was met.
use Rattle.std.proofs.Common.{zero, suc, ◌≡◌, ℕ, List, [], ◌∷◌, length, refl, ap, arith}
use Rattle.std.specs.Prelude.{Option, None, Some, false, slice_get}
use Rattle.sj_lane.specs.declared.lane.Lanes.{Lanes}
use Rattle.sj_lane.specs.Square.{IsFresh, IsSquare, NoFault, in_in, out_in}
use Rattle.sj_cases.specs.declared.odd_links.Breaks.{Breaks}
use Rattle.sj_cases.specs.declared.odd_links.Brings.{Brings}
use Rattle.sj_cases.specs.Odd.{AreOdd, IsOdd, IsUnused}

-- what holds of both of two holds of the one at an index
one_of_two : {X : Type 0} (P : X → Type 0) (a b x : X) (k : ℕ) → P a → P b → slice_get (a ∷ b ∷ []) k ≡ Some x → P x
one_of_two P a b x zero first second at = let same : a ≡ x = cc at in rw (← same) first
one_of_two P a b x (suc zero) first second at = let same : b ≡ x = cc at in rw (← same) second
one_of_two P a b x (suc (suc k)) first second at = absurd (cc at)

module _ (lanes : List (Lanes Breaks Brings)) (odd : AreOdd lanes) where
  party : (p : ℕ) (l : Lanes Breaks Brings) → slice_get lanes p ≡ Some l → IsOdd l
  party p l at = one_of_two IsOdd odd.first odd.second l p odd.first_is odd.second_is (rw (← odd.all) at)

  pub odd_square : IsSquare lanes
  odd_square p l at =
      let has = party p l at in
      let a = l.outs.ok in let b = l.ins.ok in
      let outs = ap length has.outs in let ins = ap length has.ins in let all = ap length odd.all in
      (omega arith, omega arith)

  out_lane : (l : Option (Lanes Breaks Brings)) (q : ℕ) (o : Breaks) → ((m : Lanes Breaks Brings) → l ≡ Some m → IsOdd m) → out_in l q ≡ Some o → o.faults ≡ 0
  out_lane None q o has at = absurd (cc at)
  out_lane (Some l) q o has at =
      let own = has l refl in
      one_of_two (λ (b : Breaks). b.faults ≡ 0) own.first_out own.second_out o q own.first_faultless own.second_faultless (rw (← own.outs) at)

  in_lane : (l : Option (Lanes Breaks Brings)) (p : ℕ) (i : Brings) → ((m : Lanes Breaks Brings) → l ≡ Some m → IsOdd m) → in_in l p ≡ Some i → IsUnused i
  in_lane None p i has at = absurd (cc at)
  in_lane (Some l) p i has at =
      let own = has l refl in
      one_of_two IsUnused own.first_in own.second_in i p own.first_unused own.second_unused (rw (← own.ins) at)

  pub odd_fresh : IsFresh {O = Breaks} {I = Brings} (λ o. None) (λ i. None) (λ o. 0) (λ i. i.vain) false lanes
  odd_fresh = record {
    outs = λ p q o h. (λ t. absurd (cc t), refl);
    ins = λ p q i h. (λ t. absurd (cc t), (in_lane (slice_get lanes q) p i (party q) h).0);
  }

  pub odd_faultless : NoFault {O = Breaks} {I = Brings} (λ o. o.faults) (λ i. i.faults) lanes
  odd_faultless = record {
    outs = λ p q o h. out_lane (slice_get lanes p) q o (party p) h;
    ins = λ p q i h. (in_lane (slice_get lanes q) p i (party q) h).1;
  }
