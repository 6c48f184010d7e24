-- The sessions that a party may open, at the places for which their spots stand, and the statements
-- that open them.
use Rattle.std.specs.Prelude.{ℕ, ◌&&◌, ◌==◌, List, [], ◌∷◌, map, Option, Some, None, if◌then◌else◌}
use Rattle.sj_acceptance.specs.Openings.{OpeningAt}
use Rattle.sj_seat_laws.specs.Calls as calls
use Rattle.sj_seat_laws.specs.Calls.{MayOpen}
use Rattle.sj_table.specs.declared.table.Spot.{Spot}
use Rattle.sj_table.specs.declared.table.Table.{Table}
use Rattle.sj_table.specs.Spots.{place_in}
use Rattle.sj_seat.specs.declared.guard.Guard.{Guard}
use Rattle.sj_seat.specs.declared.openings.Found.{Found}
use Rattle.sj_seat.specs.declared.openings.Opening.{Opening}
use Rattle.sj_seat.specs.declared.openings.Openings.{Openings}

-- a session that may be opened, at its place in the table
abbrev pub opening_at : Table → Opening → MayOpen
opening_at t o = record { party = o.party; protocol = o.protocol; place = place_in t o.place }

abbrev pub opened_at : Table → List Opening → List MayOpen
opened_at t os = map (opening_at t) os

-- all of them
abbrev pub openings_at : Table → Openings → calls.Openings
openings_at t os = record { requests = opened_at t os.requests.items; accepts = opened_at t os.accepts.items }

-- those that a guard sees
abbrev pub may_of : Guard → calls.Openings
may_of g = openings_at g.table.now g.may.now

-- the spot at which the party's own end begins of such a session
abbrev pub spot_opened : List Opening → (party protocol : ℕ) → Option Spot
spot_opened [] q n = None
spot_opened (o ∷ os) q n = if (o.party == q) && (o.protocol == n) then Some o.place else spot_opened os q n

-- a statement that opens one
abbrev pub statement_of : Found → OpeningAt
statement_of f = record { line = f.line; protocol = f.protocol; party = f.party }

abbrev pub found_of : List Found → List OpeningAt
found_of fs = map statement_of fs
