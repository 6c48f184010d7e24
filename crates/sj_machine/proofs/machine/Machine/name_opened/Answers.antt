use Rattle.std.proofs.Common.{arith, ap, ◌∙◌}
use Rattle.sj_semantics.specs.Steps.{name_opened}
use Rattle.sj_machine.specs.Sound.{program_at}
use Rattle.sj_machine.proofs.FrameLemmas.{frame_there}
use Rattle.sj_machine.proofs.StepLemmas.{step_makes}
use Rattle.sj_machine.proofs.machine.Machine.name_opened.Goals as goal

pub index-requires : goal.index-requires
index-requires c = let h = frame_there c.self.inside.nodes.items c.self.inside.stack.0 c.in-Some.ensures.some.0 c.in-Some.frame c.in-Some.ensures.some.1 c.self.invariant.fits in omega arith

pub returns-in-Some : goal.returns-in-Some
returns-in-Some c =
    step_makes c.self.inside.nodes.items c.self.inside.stack.0 c.in-Some.ensures.some.0 c.in-Some.frame c.index.result.now c.in-Some.ensures.some.1 c.self.invariant.back c.self.invariant.fits c.index.ensures
    c.name_at.result name_opened (λ rest. c.name_at.ensures _ _ rest)
    ∙ ap (λ m. name_opened (program_at m).todo) c.self.view_is
