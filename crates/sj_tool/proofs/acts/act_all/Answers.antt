use Rattle.std.proofs.Common.{◌∙◌, ap, map, arith}
use Rattle.sj_end.specs.Lines.{line_at}
use Rattle.sj_plain.specs.Plain.{world_at}
use Rattle.sj_semantics.specs.Run.{after_acts}
use Rattle.sj_tool.specs.Runs.{actors}
use Rattle.sj_tool.proofs.ActingLemmas.{done_all, done_next, ready_next}
use Rattle.sj_tool.proofs.acts.act_all.Goals as goal

pub loop-line-init : goal.loop-line-init
loop-line-init c = record {
  ahead = ap (λ w. after_acts w (actors (map line_at c.args.lines.now))) c.in_ok-plain.ensures.world ∙ c.requires;
  of_file = c.in_ok-plain.ensures.kept;
  reached = c.in_ok-plain.ensures.run;
}

pub act_again-requires : goal.act_again-requires
act_again-requires c = ready_next c.args.lines.now c.loop-line.line-index _ c.loop-line-test.true (world_at c.loop-line.plain) _ c.loop-line.invariant.ahead

pub loop-line-preserved : goal.loop-line-preserved
loop-line-preserved c = record {
  ahead =
      done_next c.args.lines.now c.loop-line.line-index _ c.loop-line-test.true (world_at c.loop-line.plain) _ c.loop-line.invariant.ahead (world_at c.act_again.new.plain) c.in_ok-act_again.ensures.ok;
  of_file = c.act_again.ensures.kept ∙ c.loop-line.invariant.of_file;
  reached = c.act_again.ensures.run c.loop-line.invariant.reached;
}

pub returns-clause-end : goal.returns-clause-end
returns-clause-end c = done_all c.args.lines.now c.loop-line.line-index (world_at c.loop-line.plain) _ (omega (arith, c.loop-line-test.false)) c.loop-line.invariant.ahead
