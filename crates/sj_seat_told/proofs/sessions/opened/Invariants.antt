use Rattle.std.proofs.Common.{◌≡◌}
use Rattle.sj_seat_told_laws.specs.SeatsOpened.{sessions_told}
use Rattle.sj_seats.specs.Seated.{history_of}
use Rattle.sj_seat_told.proofs.sessions.opened.Given as goal

-- those of the parties so far
abbrev pub invariant-loop-party : goal.invariant-loop-party
invariant-loop-party l = l.all.items ≡ sessions_told (history_of l.world) l.party 0
