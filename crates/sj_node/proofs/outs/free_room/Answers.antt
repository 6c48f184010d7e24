use Rattle.std.proofs.Common.{ap, arith}
use Rattle.std.proofs.lemmas.Grind.{common_steps}
use Rattle.sj_node.specs.Outs.{room_of}
use Rattle.sj_node.proofs.OutLemmas.{set_there}
use Rattle.sj_node.proofs.ReadingLemmas.{no_frames}
use Rattle.sj_node.proofs.outs.free_room.Goals as goal

-- an outbox that is freed is empty
pub returns-clause-used : goal.returns-clause-used
returns-clause-used c = λ waits. absurd (waits (no_frames c.args.outs.now.items c.args.to c.index-out.result.now (omega arith) c.index-out.ensures (grind (arith, common_steps, c.index-out.result.now.ok))))

pub returns-clause-others : goal.returns-clause-others
returns-clause-others c = λ q other. ap room_of (set_there c.args.outs.now.items c.args.to q c.shrink_to_fit.new.self other)
