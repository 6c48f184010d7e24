use Rattle.std.proofs.Common.{◌≡◌, ℕ, length, refl, subst, [], arith, inl, inr}
use Rattle.std.proofs.lemmas.Bool.{cases_lt}
use Rattle.std.proofs.lemmas.Grind.{common_steps}
use Rattle.sj_node.specs.Outs.{waiting_in}
use Rattle.sj_node.proofs.ReadingLemmas.{no_frames, past_outs}
use Rattle.sj_node.proofs.readers.are_empty.Goals as goal

pub loop-out-preserved : goal.loop-out-preserved
loop-out-preserved c = λ q lt. elim (cases_lt q c.loop-out.out-index) [
  | inl less ↦ c.loop-out.invariant q less
  | inr more ↦
      let here : c.loop-out.out-index ≡ q = omega arith in
      subst (λ (n : ℕ). waiting_in c.args.outs.now n ≡ []) here (no_frames c.args.outs.now c.loop-out.out-index c.out-item.result c.loop-out-test.true c.out-item.is (grind (arith, common_steps)))
]

pub returns : goal.returns
returns c = (
  λ yes q. elim (cases_lt q (length c.args.outs.now)) [
    | inl less ↦ c.loop-out.invariant q (omega (arith, c.loop-out-test.false))
    | inr more ↦ past_outs c.args.outs.now q more
  ],
  λ none. refl,
)
