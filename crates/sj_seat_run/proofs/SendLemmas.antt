-- A party may go to another thread where its lanes and its code may, and where its gate may be
-- shared.
use denote.Ref.{NamedLft}
use denote.RattleType.{RattleType}
use denote.Param.Send.{IsSend, IsSync, sendable}
use denote.Param.SendFields.{declared_send, variants_send}
use Rattle.std.proofs.vec.Vec.TheSendSync as vec
use Rattle.std.proofs.alloc.Global.TheSendSync as global
use Rattle.std.below.std_heap.proofs.GlobalAllocator.TheSendSync as frees
use Rattle.sj_node.specs.contracts.node.Node as node
use Rattle.sj_seat.proofs.ends.HeldEnd.TheSendSync as held
use Rattle.sj_seat.proofs.openings.Openings.TheSendSync as openings
use Rattle.sj_seat.proofs.wish.OpenedSession.TheSendSync as opened
use Rattle.sj_seat.specs.contracts.guest.Guest as guest
use Rattle.sj_table.specs.contracts.table.Table as table
use Rattle.sj_work.proofs.SendLemmas.{worker_send}
use Rattle.sj_seat_run.specs.contracts.runners.Actor as actor
use Rattle.sj_seat_run.specs.contracts.runners.Runner as runner

module _ (a : NamedLft) (O I G : RattleType) (o : IsSend O) (i : IsSend I) (g : IsSync G) (n : IsSend node.the_row) (t : IsSend table.the_row) where
  guest_send : IsSend (guest.the_row a O I G)
  guest_send =
      declared_send (guest.the_type a O I G)
      (worker_send O I o i n, (t, (search (held.the_send, held.the_field_send, vec.the_send, global.the_send, frees.the_frees, sendable) depth 20, (search (openings.the_send, openings.the_field_send, sendable) depth 20, (search sendable, (search sendable, (search sendable, (search sendable, tt))))))))

  module _ (C : RattleType) (c : IsSend C) where
    actor_send : IsSend (actor.the_row a O I G C)
    actor_send = declared_send (actor.the_type a O I G C) (guest_send, (search sendable, (search (opened.the_send, vec.the_send, global.the_send, frees.the_frees, sendable) depth 20, tt)))

    pub runner_send : IsSend (runner.the_row a O I G C)
    runner_send = variants_send (runner.enum a O I G C) ((worker_send O I o i n, tt), ((actor_send, tt), tt))
