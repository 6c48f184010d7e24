use Rattle.sj_socket.specs.Rows.{Grid}
use Rattle.sj_socket.proofs.grid.no_lanes.Given as goal

abbrev pub invariant-loop : goal.invariant-loop
invariant-loop l = Grid l.counter 0 0 l.lanes.items
