use denote.Param.Send.{sendable}
use denote.Param.SendFields.{declared_send}
use Rattle.std.proofs.vec.Vec.TheSendSync as vec
use Rattle.std.proofs.collections.VecDeque.TheSendSync as deque
use Rattle.std.proofs.option.Option.TheSendSync as option
use Rattle.std.proofs.alloc.Global.TheSendSync as global
use Rattle.std.below.std_heap.proofs.GlobalAllocator.TheSendSync as frees
use Rattle.sj_end.proofs.frames.Frame.TheSendSync as frame
use Rattle.sj_end.proofs.note.Entry.TheSendSync as entry
use Rattle.sj_node.proofs.slots.Main.TheSendSync as main
use Rattle.sj_node.proofs.slots.Old.TheSendSync as old
use Rattle.sj_node.specs.contracts.node.Node as node
use Rattle.sj_node.proofs.threads.node_crosses.Goals as goal

pub returns : goal.returns
returns c =
    declared_send node.the_type
    (search (vec.the_send, deque.the_send, option.the_send, global.the_send, frees.the_frees, main.the_send, main.the_field_send, old.the_send, old.the_field_send, frame.the_send, frame.the_field_send, entry.the_send, entry.the_field_send, sendable) depth 20, (search sendable, (search sendable, (search sendable, (search sendable, (c.machine_crosses.ensures, (c.table_crosses.ensures, (search sendable, (search (vec.the_send, deque.the_send, option.the_send, global.the_send, frees.the_frees, main.the_send, main.the_field_send, old.the_send, old.the_field_send, frame.the_send, frame.the_field_send, entry.the_send, entry.the_field_send, sendable) depth 20, (search (vec.the_send, deque.the_send, option.the_send, global.the_send, frees.the_frees, main.the_send, main.the_field_send, old.the_send, old.the_field_send, frame.the_send, frame.the_field_send, entry.the_send, entry.the_field_send, sendable) depth 20, (search (vec.the_send, deque.the_send, option.the_send, global.the_send, frees.the_frees, main.the_send, main.the_field_send, old.the_send, old.the_field_send, frame.the_send, frame.the_field_send, entry.the_send, entry.the_field_send, sendable) depth 20, (search (vec.the_send, deque.the_send, option.the_send, global.the_send, frees.the_frees, main.the_send, main.the_field_send, old.the_send, old.the_field_send, frame.the_send, frame.the_field_send, entry.the_send, entry.the_field_send, sendable) depth 20, (search (vec.the_send, deque.the_send, option.the_send, global.the_send, frees.the_frees, main.the_send, main.the_field_send, old.the_send, old.the_field_send, frame.the_send, frame.the_field_send, entry.the_send, entry.the_field_send, sendable) depth 20, tt)))))))))))))
