-- Nodes and chairs before any event.
use Rattle.std.specs.Prelude.{◌≡◌, ℕ, Bool, true, false, List, ⊤, length, slice_get, Option, Some, None}
use Rattle.sj_lang.specs.FileAt.{FileAt}
use Rattle.sj_node.specs.declared.node.Node.{Node}
use Rattle.sj_node.specs.Reading.{table_of}
use Rattle.sj_node.specs.Starting.{Begins, BeginsWith, nothing_to_do}
use Rattle.sj_seat.specs.Holding.{ends_at}
use Rattle.sj_seat.specs.Opened.{openings_at}
use Rattle.sj_seat_laws.specs.SeatedStart.{connected_ends, openings_of}
use Rattle.sj_table.specs.declared.table.Table.{Table}
use Rattle.sj_seats.specs.declared.played.Chair.{Chair}

-- the node of that party, whose program is the file's, or one with nothing to do where it is played
-- by code
abbrev pub BeginsSo : FileAt → ℕ → Bool → Node → Type 0
BeginsSo file p true n = BeginsWith file p 0 (nothing_to_do file) n
BeginsSo file p false n = Begins file p 0 n

-- over that table
abbrev pub HasBegun : FileAt → Table → ℕ → Bool → Node → Type 0
HasBegun file t p seated n = BeginsSo file p seated n × (table_of n ≡ t)

-- what the code of that party holds before its first call
pub record Sat (file : FileAt) (t : Table) (p : ℕ) (c : Chair) : Type 0 where
  pub ends : ends_at t c.ends.items ≡ connected_ends file p
  pub may : openings_at t c.may ≡ openings_of file (slice_get file.parties p)
  pub calls : c.calls ≡ 0

-- there is a chair where the party is played by code, and only then
abbrev pub SitsSo : FileAt → Table → ℕ → Bool → Option Chair → Type 0
SitsSo file t p true None = ⊥
SitsSo file t p true (Some c) = Sat file t p c
SitsSo file t p false None = ⊤
SitsSo file t p false (Some c) = ⊥

-- the nodes and chairs of the first parties, for each of these answers one
pub record AreBegun (file : FileAt) (t : Table) (seats : List Bool) (nodes : List Node) (chairs : List (Option Chair)) : Type 0 where
  pub node_count : length nodes ≡ length seats
  pub chair_count : length chairs ≡ length seats
  pub each : (p : ℕ) (b : Bool) (n : Node) → slice_get seats p ≡ Some b → slice_get nodes p ≡ Some n → HasBegun file t p b n
  pub sits : (p : ℕ) (b : Bool) (o : Option Chair) → slice_get seats p ≡ Some b → slice_get chairs p ≡ Some o → SitsSo file t p b o
