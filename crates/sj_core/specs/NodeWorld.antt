-- A core world as it lies in memory.
use Rattle.std.specs.Prelude.{◌≡◌, List, [], ◌∷◌, ◌++◌, map, max, Some}
use Rattle.sj_lang.specs.Place.{Place}
use Rattle.sj_lang.specs.FileAt.{FileAt}
use Rattle.sj_semantics.specs.Program.{Program}
use Rattle.sj_acceptance.specs.Accepted.{IsAccepted}
use Rattle.sj_plain.specs.SharedFile.{file_kept, without_words}
use Rattle.sj_node.specs.declared.node.Node.{Node}
use Rattle.sj_rules.specs.History.{IsHistory, due}
use Rattle.sj_rules.specs.Log.{LineAt}
use Rattle.sj_rules.specs.World.{WorldAt, happens}
use Rattle.sj_rules.specs.Party.{play_of}
use Rattle.sj_core.specs.declared.node_world.NodeWorld.{NodeWorld}
use Rattle.sj_core.specs.Nodes.{AreSeated, world_by}
use Rattle.sj_core.specs.Views.{line_at}

-- the file that it is of, without its words
abbrev pub file_in : NodeWorld → FileAt
file_in c = file_kept c.kept

abbrev pub nodes_in : NodeWorld → List Node
nodes_in c = c.nodes.items

-- what happened, in order
abbrev pub history_in : NodeWorld → List LineAt
history_in c = map line_at c.history.items

abbrev pub world_in : NodeWorld → WorldAt Place Program
world_in c = world_by (file_in c) (nodes_in c)

-- the file is what is kept of an accepted one
pub record IsOfAccepted (kept : FileAt) : Type 0 where
  pub file : FileAt
  pub accepted : IsAccepted file
  pub same : kept ≡ without_words file

-- some lines lead from the start of its accepted file to its world, whatever it lists
pub record IsLed (c : NodeWorld) : Type 0 where
  pub accepted : IsOfAccepted (file_in c)
  pub past : List LineAt
  pub run : IsHistory max (file_in c) past (world_in c)
  pub seats : AreSeated (file_in c) (nodes_in c)

-- its history does
pub record IsReached (c : NodeWorld) : Type 0 where
  pub accepted : IsOfAccepted (file_in c)
  pub run : IsHistory max (file_in c) (history_in c) (world_in c)
  pub seats : AreSeated (file_in c) (nodes_in c)

-- the event of that line is a step, and the line is the one that is due
pub record Steps (c : NodeWorld) (l : LineAt) (d : NodeWorld) : Type 0 where
  pub step : happens (play_of (file_in c)) max (world_in c) l.party l.entry.event ≡ Some (world_in d)
  pub due_line : due (play_of (file_in c)) max (world_in c) l.party l.entry.event ≡ Some l
  pub listed : history_in d ≡ history_in c ++ l ∷ []
  pub file : file_in d ≡ file_in c

-- the same, whatever is listed
pub record Redoes (c : NodeWorld) (l : LineAt) (d : NodeWorld) : Type 0 where
  pub step : happens (play_of (file_in c)) max (world_in c) l.party l.entry.event ≡ Some (world_in d)
  pub due_line : due (play_of (file_in c)) max (world_in c) l.party l.entry.event ≡ Some l
  pub seats : AreSeated (file_in d) (nodes_in d)
  pub file : file_in d ≡ file_in c

-- nothing that contracts see has changed
pub record StaysIn (c d : NodeWorld) : Type 0 where
  pub world : world_in d ≡ world_in c
  pub history : history_in d ≡ history_in c
  pub file : file_in d ≡ file_in c
