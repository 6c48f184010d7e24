-- As which protocols codes opened their sessions, as a replay is told.
use Rattle.std.specs.Prelude.{ℕ, List, [], ◌∷◌, slice_get, Option, Some, None, if◌then◌else◌}
use Rattle.std.specs.Global.{Vec}
use Rattle.sj_base.specs.declared.EndId.{EndId}
use Rattle.sj_rules.specs.Record.{is_same_end}
use Rattle.sj_seat.specs.declared.wish.OpenedSession.{OpenedSession}
use Rattle.sj_seats.specs.Calls.{OpenedAs}

-- the protocol of the session of that end, by the first entry that has it; that of number 0 where none
-- does
abbrev pub protocol_in : List OpenedSession → EndId → ℕ
protocol_in [] e = 0
protocol_in (o ∷ os) e = if is_same_end o.end e then o.protocol else protocol_in os e

-- the same of what is told of one party, if anything is
abbrev pub protocol_of : Option (Vec OpenedSession) → EndId → ℕ
protocol_of None e = 0
protocol_of (Some own) e = protocol_in own.items e

-- of each party, by lists in the order of the parties
abbrev pub opened_by : List (Vec OpenedSession) → OpenedAs
opened_by all q e = protocol_of (slice_get all q) e
