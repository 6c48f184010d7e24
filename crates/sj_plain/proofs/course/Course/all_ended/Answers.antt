use Rattle.std.proofs.Common.{◌∙◌, arith, sym}
use Rattle.std.proofs.lemmas.List.{length-map}
use Rattle.sj_machine.specs.Sound.{program_at}
use Rattle.sj_plain.specs.Course.{world_in}
use Rattle.sj_plain.proofs.StatesLemmas.{one_goes_on, others_ended}
use Rattle.sj_plain.proofs.course.Course.all_ended.Goals as goal

pub loop-i-preserved : goal.loop-i-preserved
loop-i-preserved c =
    others_ended (world_in c.args.self.now) c.loop-i.i c.state.result (omega (arith, c.loop-i-test.true, c.len-i-end.ensures, length-map c.args.self.now.machines.items program_at)) c.state.ensures
    (sym c.if-not-has_ended.false ∙ c.has_ended.ensures) ∙ c.loop-i.invariant

pub returns-then-not-has_ended : goal.returns-then-not-has_ended
returns-then-not-has_ended c =
    one_goes_on (world_in c.args.self.now) c.loop-i.i c.state.result (omega (arith, c.loop-i-test.true, c.len-i-end.ensures, length-map c.args.self.now.machines.items program_at)) c.state.ensures
    (sym c.if-not-has_ended.true ∙ c.has_ended.ensures) ∙ c.loop-i.invariant
