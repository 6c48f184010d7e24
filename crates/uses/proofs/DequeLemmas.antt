-- New lanes over deques are a square, in which nothing was looked for in vain.
use Rattle.std.proofs.Common.{◌≡◌, ℕ, List, refl, arith}
use Rattle.std.specs.Prelude.{Some, false, None, slice_get}
use Rattle.sj_lane.specs.declared.lane.Lanes.{Lanes}
use Rattle.sj_lane.specs.Square.{IsFresh, IsSquare, in_at}
use Rattle.sj_lane.proofs.MemRowsLemmas.{all_get}
use Rattle.sj_lane.proofs.SettleLemmas.{in_found}
use Rattle.uses.specs.declared.deques.DequeOut.{DequeOut}
use Rattle.uses.specs.declared.deques.DequeIn.{DequeIn}
use Rattle.uses.specs.DequeLanes.{AreNewRows, IsNewIn, IsNewRow}

module _ (n : ℕ) (L : List (Lanes DequeOut DequeIn)) (news : AreNewRows n n L) where
  new_in : (p q : ℕ) (i : DequeIn) → in_at L p q ≡ Some i → i.vain ≡ 0
  new_in p q i h =
      let f = in_found (slice_get L q) p i h in
      let row : IsNewRow n f.0 = all_get (IsNewRow n) L q f.0 news.each f.1 in
      all_get IsNewIn f.0.ins.items p i row.ins.each f.2

  pub new_square : IsSquare L
  new_square p l at =
      let row : IsNewRow n l = all_get (IsNewRow n) L p l news.each at in
      let size = news.size in let outs = row.outs in let ins = row.ins.size in let a = l.outs.ok in let b = l.ins.ok in
      (omega arith, omega arith)

  pub new_fresh : IsFresh {O = DequeOut} {I = DequeIn} (λ o. None) (λ i. None) (λ o. 0) (λ i. i.vain) false L
  new_fresh = record {
    outs = λ p q o h. (λ t. absurd (cc t), refl);
    ins = λ p q i h. (λ t. absurd (cc t), new_in p q i h);
  }
