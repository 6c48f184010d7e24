use Rattle.std.proofs.Common.{◌≡◌, None}
use Rattle.sj_seat.specs.Ready.{first_there}
use Rattle.sj_seat.specs.Views.{node_of}
use Rattle.sj_seat.proofs.AfterLemmas.{Waited}
use Rattle.sj_seat.proofs.guest.Guest.wait_for_any.Given as goal

abbrev pub invariant-loop : goal.invariant-loop
invariant-loop g l = record {
  waited : Waited g.O.OutLane g.I.InLane l.fn.self l.self;
  none : first_there (node_of l.self) l.ends ≡ None;
}
