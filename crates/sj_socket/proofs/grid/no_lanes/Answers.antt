use Rattle.sj_socket.proofs.RowLemmas.{party_more}
use Rattle.sj_socket.proofs.grid.no_lanes.Goals as goal

pub loop-preserved : goal.loop-preserved
loop-preserved c = rw c.in_ok-push.ensures.items (party_more c.loop.counter c.loop.lanes.items _ c.loop.invariant c.new.ensures.items c.new-in-loop.ensures.items)
