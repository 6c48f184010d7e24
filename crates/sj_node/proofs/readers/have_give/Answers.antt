use Rattle.std.proofs.Common.{rules, ◌≡◌, ℕ, length, subst, sym, arith, inl, inr}
use Rattle.std.proofs.lemmas.Bool.{cases_lt}
use Rattle.sj_rules.specs.Frames.{FrameAt}
use Rattle.std.specs.Prelude.{List}
use Rattle.sj_table.specs.declared.table.Spot.{Spot}
use Rattle.sj_node.specs.Gives.{HasNoGive}
use Rattle.sj_node.specs.Outs.{waiting_in}
use Rattle.sj_node.proofs.ReadingLemmas.{past_outs}
use Rattle.sj_node.proofs.PlainFrameLemmas.{items_at, waiting_at}
use Rattle.sj_node.proofs.readers.have_give.Goals as goal

pub loop-out-preserved : goal.loop-out-preserved
loop-out-preserved c = λ q lt. elim (cases_lt q c.loop-out.out-index) [
  | inl less ↦ c.loop-out.invariant q less
  | inr more ↦
      let here : c.loop-out.out-index ≡ q = omega arith in
      subst (λ (n : ℕ). HasNoGive (waiting_in c.args.outs.now n)) here
      (waiting_at c.args.outs.now c.loop-out.out-index c.out-item.result c.loop-out-test.true c.out-item.is (c.has_give.ensures.no (search rules)))
]

pub returns-then-has_give-clause-yes : goal.returns-then-has_give-clause-yes
returns-then-has_give-clause-yes c = λ yes none.
    let at = c.loop-out.out-index in
    c.has_give.ensures.yes c.if-has_give.true (items_at c.args.outs.now at c.out-item.result c.loop-out-test.true c.out-item.is (none at))

pub returns-clause-no : goal.returns-clause-no
returns-clause-no c = λ no q. elim (cases_lt q (length c.args.outs.now)) [
  | inl less ↦ c.loop-out.invariant q (omega (arith, c.loop-out-test.false))
  | inr more ↦ subst (λ (l : List (FrameAt Spot)). HasNoGive l) (sym (past_outs c.args.outs.now q more)) tt
]
