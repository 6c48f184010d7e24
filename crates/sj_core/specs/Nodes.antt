-- The world of nodes that lie in a list. A lane is what its sender has posted and nobody has taken
-- out.
use Rattle.std.specs.Prelude.{◌≡◌, ℕ, ◌<◌, max, ⊤, List, [], length, slice_get, Option, Some, None}
use Rattle.sj_lang.specs.Place.{Place}
use Rattle.sj_lang.specs.FileAt.{FileAt, body_named}
use Rattle.sj_semantics.specs.Program.{Program}
use Rattle.sj_table.specs.declared.table.Table.{Table}
use Rattle.sj_table.specs.Spots.{start_in}
use Rattle.sj_end.specs.declared.note.Event.{Event}
use Rattle.sj_end.specs.declared.note.Event.TheVariants as events
use Rattle.sj_end.specs.declared.note.Entry.{Entry}
use Rattle.sj_node.specs.declared.node.Node.{Node}
use Rattle.sj_node.specs.Node.{log_of, node_at, outbox_of, connect_count, play_here}
use Rattle.sj_node.specs.Play.{play_with}
use Rattle.sj_node.specs.Reading.{parties_of, party_of, table_of}
use Rattle.sj_node.specs.Starting.{Begins}
use Rattle.sj_rules.specs.Frames.{FrameAt}
use Rattle.sj_rules.specs.Node.{NodeAt}
use Rattle.sj_rules.specs.Party.{play_of}
use Rattle.sj_rules.specs.Start.{first_node}
use Rattle.sj_rules.specs.World.{WorldAt, happens}
use Rattle.sj_rules.specs.History.{due}
use Rattle.sj_core.specs.Views.{event_at, line_with}

abbrev pub node_or : NodeAt Place Program → Option Node → NodeAt Place Program
node_or first None = first
node_or first (Some n) = node_at n

abbrev pub box_or : Option Node → ℕ → List (FrameAt Place)
box_or None q = []
box_or (Some n) q = outbox_of n q

-- a party that isn't there stays as it begins
abbrev pub world_by : FileAt → List Node → WorldAt Place Program
world_by file nodes = record {
  nodes = λ p. node_or (first_node file p) (slice_get nodes p);
  lanes = λ from to. box_or (slice_get nodes from) to;
}

-- the node is that party's among those of the file, over that table, and has no log: the history
-- keeps what it noted
pub record IsSeated (file : FileAt) (over : Table) (p : ℕ) (n : Node) : Type 0 where
  pub party : party_of n ≡ p
  pub parties : parties_of n ≡ length file.parties
  pub table : table_of n ≡ over
  pub connects : connect_count n ≡ length file.connects
  pub log : log_of n ≡ []

-- the node is what that party has in the world, and plays by the file's protocols
pub record IsNodeOf (file : FileAt) (core : WorldAt Place Program) (p : ℕ) (n : Node) : Type 0 where
  pub here : core.nodes p ≡ node_at n
  pub party : party_of n ≡ p
  pub play : play_here n ≡ play_with (body_named file.protocols) (length file.connects) (length file.parties)

-- each party of the file has its node, over one table of the file's protocols
pub record AreSeated (file : FileAt) (nodes : List Node) : Type 0 where
  pub table : Table
  pub starts : (q : ℕ) → start_in table q ≡ body_named file.protocols q
  pub count : length nodes ≡ length file.parties
  pub each : (p : ℕ) (n : Node) → slice_get nodes p ≡ Some n → IsSeated file table p n

-- the event is a step, with that entry
pub record Moves (file : FileAt) (old : List Node) (p : ℕ) (event : Event) (entry : Entry) (new : List Node) : Type 0 where
  pub step : happens (play_of file) max (world_by file old) p (event_at event) ≡ Some (world_by file new)
  pub line : due (play_of file) max (world_by file old) p (event_at event) ≡ Some (line_with p entry)
  pub seats : AreSeated file new

-- nothing has changed
pub record NodesStay (file : FileAt) (old new : List Node) : Type 0 where
  pub world : world_by file new ≡ world_by file old
  pub seats : AreSeated file new

-- the origin of a delivery is one of so many parties
abbrev pub ComesFrom : Event → ℕ → Type 0
ComesFrom events.Act n = ⊤
ComesFrom (events.Deliver q) n = q < n

-- the nodes of the first parties of the file, so many, before any event and over that table
pub record AreBegun (file : FileAt) (over : Table) (many : ℕ) (nodes : List Node) : Type 0 where
  pub count : length nodes ≡ many
  pub each : (p : ℕ) (n : Node) → slice_get nodes p ≡ Some n → Begins file p 0 n × (table_of n ≡ over)

-- each is its party's node before any event
pub record AreFirst (file : FileAt) (nodes : List Node) : Type 0 where
  pub seats : AreSeated file nodes
  pub first : (p : ℕ) (n : Node) → slice_get nodes p ≡ Some n → node_at n ≡ first_node file p
  pub boxes : (p : ℕ) (n : Node) → slice_get nodes p ≡ Some n → (q : ℕ) → outbox_of n q ≡ []
