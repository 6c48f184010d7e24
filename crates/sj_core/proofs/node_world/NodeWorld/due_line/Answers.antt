use Rattle.sj_core.proofs.node_world.NodeWorld.due_line.Goals as goal
use Rattle.sj_core.proofs.DueLemmas.{abroad_due}
use Rattle.std.proofs.Common.{arith}
use Rattle.std.proofs.lemmas.Grind.{common_steps}

pub returns-then-not-is_there-clause-due : goal.returns-then-not-is_there-clause-due
returns-then-not-is_there-clause-due c = abroad_due c.args.self.now c.requires.led c.args.party c.args.event (c.is_there.ensures.absent (grind (arith, common_steps)))
