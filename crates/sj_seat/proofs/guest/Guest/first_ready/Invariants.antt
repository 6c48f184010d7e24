use Rattle.std.proofs.Common.{◌≡◌, drop}
use Rattle.sj_seat.specs.Ready.{first_there}
use Rattle.sj_seat.specs.Views.{node_of}
use Rattle.sj_seat.proofs.guest.Guest.first_ready.Given as goal

abbrev pub invariant-loop-end : goal.invariant-loop-end
invariant-loop-end g l = first_there (node_of l.self) (drop l.end-index l.ends) ≡ first_there (node_of l.self) l.ends
