-- A core world with seats as callers see it.
use Rattle.std.specs.Prelude.{ℕ, Bool, false, List, length, slice_get, unwrap_or, Option, Some, None, option_map}
use Rattle.sj_lang.specs.FileAt.{FileAt}
use Rattle.sj_lang.specs.Place.{Place}
use Rattle.sj_node.specs.declared.node.Node.{Node}
use Rattle.sj_rules.specs.Log.{LineAt}
use Rattle.sj_rules.specs.World.{WorldAt}
use Rattle.sj_seat.specs.Holding.{ends_at}
use Rattle.sj_seat_laws.specs.Calls.{Ends}
use Rattle.sj_seat_laws.specs.SeatedPlay.{Player}
use Rattle.sj_seat_laws.specs.SeatsStart.{Callers}
use Rattle.sj_table.specs.declared.table.Table.{Table}
use Rattle.sj_seats.specs.Calls.{OpenedAs, callers_told, no_calls}
use Rattle.sj_seats.specs.Core.{chair_of, is_seat}
use Rattle.sj_seats.specs.Played.{chairs_in, core_in, file_in, history_in, nodes_in, opened_in}
use Rattle.sj_seats.specs.declared.played.Chair.{Chair}
use Rattle.sj_seats.specs.declared.seated.SeatedWorld.{SeatedWorld}

-- whether a list of answers, one for each party, has that party played by code
abbrev pub seat_in : List Bool → ℕ → Bool
seat_in seats q = unwrap_or (slice_get seats q) false

-- the file that it is of, without its tables of words
abbrev pub kept_file : SeatedWorld → FileAt
kept_file w = file_in w

-- what happened so far, in order
abbrev pub history_of : SeatedWorld → List LineAt
history_of w = history_in w

-- which parties are played by code
abbrev pub seats_of : SeatedWorld → ℕ → Bool
seats_of w = is_seat (chairs_in w)

-- as which protocols their codes opened their sessions
abbrev pub opened_of : SeatedWorld → OpenedAs
opened_of w = opened_in w

-- what their codes called: exactly what the history tells
abbrev pub callers_of : SeatedWorld → Callers
callers_of w = callers_told (seats_of w) (opened_of w) (history_of w)

-- the parties and the lanes as the history left them; no code makes a call any more
abbrev pub core_of : SeatedWorld → WorldAt Place Player
core_of w = core_in w no_calls

-- the nodes of the parties, in order
abbrev pub nodes_of : SeatedWorld → List Node
nodes_of w = nodes_in w

-- how many parties there are
abbrev pub party_count : SeatedWorld → ℕ
party_count w = length (nodes_in w)

-- the ends that the code of the party holds, at their places; None for a party of the file
abbrev pub ends_of : SeatedWorld → ℕ → Option Ends
ends_of w q = option_map (λ (c : Chair). ends_at w.table c.ends.items) (chair_of (chairs_in w) q)

abbrev pub calls_by : Option Chair → ℕ
calls_by None = 0
calls_by (Some c) = c.calls

-- how many calls the code of the party made; none where it goes by the file
abbrev pub calls_of : SeatedWorld → ℕ → ℕ
calls_of w q = calls_by (chair_of (chairs_in w) q)

-- the table of places that all nodes have
abbrev pub table_of : SeatedWorld → Table
table_of w = w.table
