-- The core world of nodes that lie in a list, where some parties are played by code of their own.
use Rattle.std.specs.Prelude.{◌≡◌, ℕ, Bool, List, is_some, slice_get, unwrap_or, Option, Some, None, option_map}
use Rattle.sj_core.specs.Nodes.{world_by}
use Rattle.sj_lang.specs.FileAt.{FileAt}
use Rattle.sj_lang.specs.Place.{Place}
use Rattle.sj_node.specs.declared.node.Node.{Node}
use Rattle.sj_node.specs.Reading.{table_of}
use Rattle.sj_rules.specs.World.{WorldAt}
use Rattle.sj_seat.specs.Holding.{ends_at}
use Rattle.sj_seat.specs.Opened.{openings_at}
use Rattle.sj_seat_laws.specs.Calls.{Call, SeatedAt}
use Rattle.sj_seat_laws.specs.SeatedPlay.{Player}
use Rattle.sj_seat_laws.specs.SeatRows.{with_player}
use Rattle.sj_seat_laws.specs.SeatsWorld.{player_by}
use Rattle.sj_semantics.specs.Program.{Program}
use Rattle.sj_table.specs.declared.table.Table.{Table}
use Rattle.sj_seats.specs.declared.played.Chair.{Chair}

-- what the code of that party holds, where it is played by code
abbrev pub chair_of : List (Option Chair) → ℕ → Option Chair
chair_of chairs q = unwrap_or (slice_get chairs q) None

-- whether it is
abbrev pub is_seat : List (Option Chair) → ℕ → Bool
is_seat chairs q = is_some (chair_of chairs q)

-- the party, whose code still makes these calls
abbrev pub seat_by : Table → List Call → Chair → SeatedAt
seat_by t calls c = record { ends = ends_at t c.ends.items; steps = c.calls; calls = calls; may = openings_at t c.may }

-- each party that is played by code
abbrev pub seats_by : Table → List (Option Chair) → (ℕ → List Call) → ℕ → Option SeatedAt
seats_by t chairs rest q = option_map (seat_by t (rest q)) (chair_of chairs q)

-- a world in which these parties are played by code, and the others go by their programs
abbrev pub played : (ℕ → Option SeatedAt) → WorldAt Place Program → WorldAt Place Player
played who w = record { nodes = λ q. with_player (player_by (who q) (w.nodes q).program) (w.nodes q); lanes = w.lanes }

-- the world of these nodes, where the codes still make these calls
abbrev pub core_by : FileAt → Table → List Node → List (Option Chair) → (ℕ → List Call) → WorldAt Place Player
core_by file t nodes chairs rest = played (seats_by t chairs rest) (world_by file nodes)

-- all nodes are over that table
abbrev pub AreOver : Table → List Node → Type 0
AreOver t nodes = (p : ℕ) (n : Node) → slice_get nodes p ≡ Some n → table_of n ≡ t
