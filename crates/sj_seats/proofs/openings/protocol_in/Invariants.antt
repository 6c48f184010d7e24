use Rattle.std.proofs.Common.{◌≡◌, drop}
use Rattle.sj_seats.specs.Openings.{protocol_in}
use Rattle.sj_seats.proofs.openings.protocol_in.Given as goal

abbrev pub invariant-loop-session : goal.invariant-loop-session
invariant-loop-session l = protocol_in (drop l.session-index l.opened) l.end ≡ protocol_in l.opened l.end
