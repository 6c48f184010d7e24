use Rattle.std.proofs.Common.{◌∙◌, arith, sym}
use Rattle.std.proofs.lemmas.List.{length-map}
use Rattle.sj_machine.specs.Sound.{program_at}
use Rattle.sj_plain.specs.Course.{world_in}
use Rattle.sj_plain.proofs.StatesLemmas.{one_at_limit, others_at_limit}
use Rattle.sj_plain.proofs.course.Course.some_at_limit.Goals as goal

pub loop-i-preserved : goal.loop-i-preserved
loop-i-preserved c =
    others_at_limit (world_in c.args.self.now) c.loop-i.i c.state.result (omega (arith, c.loop-i-test.true, c.len-i-end.ensures, length-map c.args.self.now.machines.items program_at)) c.state.ensures
    (sym c.if-is_at_limit.false ∙ c.is_at_limit.ensures) ∙ c.loop-i.invariant

pub returns-then-is_at_limit : goal.returns-then-is_at_limit
returns-then-is_at_limit c =
    one_at_limit (world_in c.args.self.now) c.loop-i.i c.state.result (omega (arith, c.loop-i-test.true, c.len-i-end.ensures, length-map c.args.self.now.machines.items program_at)) c.state.ensures
    (sym c.if-is_at_limit.true ∙ c.is_at_limit.ensures) ∙ c.loop-i.invariant
