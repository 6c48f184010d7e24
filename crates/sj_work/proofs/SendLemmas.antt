-- A worker may go to another thread where its lanes may.
use denote.RattleType.{RattleType}
use denote.Param.Send.{IsSend, sendable}
use denote.Param.SendFields.{declared_send}
use Rattle.std.proofs.vec.Vec.TheSendSync as vec
use Rattle.std.proofs.option.Option.TheSendSync as option
use Rattle.std.proofs.alloc.Global.TheSendSync as global
use Rattle.std.below.std_heap.proofs.GlobalAllocator.TheSendSync as frees
use Rattle.sj_end.proofs.note.Line.TheSendSync as line
use Rattle.sj_lane.proofs.lane.Lanes.TheSendSync as lanes
use Rattle.sj_node.specs.contracts.node.Node as node
use Rattle.sj_work.proofs.worker.Outcome.TheSendSync as answer
use Rattle.sj_work.specs.contracts.worker.Worker as worker

pub worker_send : (O I : RattleType) → IsSend O → IsSend I → IsSend node.the_row → IsSend (worker.the_row O I)
worker_send O I o i n =
    declared_send (worker.the_type O I)
    (n, (search (lanes.the_send, vec.the_send, global.the_send, frees.the_frees, sendable) depth 20, (search (option.the_send, answer.the_send, line.the_send, sendable) depth 20, (search sendable, tt))))
