use Rattle.std.proofs.Common.{◌∙◌, ◌+◌, ap}
use Rattle.sj_plain.specs.Plain.{world_at}
use Rattle.sj_tool.proofs.SumLemmas.{program_more}
use Rattle.sj_tool.proofs.sums.steps.Goals as goal

pub loop-i-preserved : goal.loop-i-preserved
loop-i-preserved c =
    let gs = (world_at c.args.plain.now).parties in
    program_more gs c.loop-i.i c.loop-i.count c.steps.result c.in_ok-count.count c.loop-i.invariant c.steps.ensures
    (c.in_ok-count.ensures ∙ ap (λ k. c.loop-i.count + k) c.from.ensures)
