-- What is reported of a world that leaves nothing to do.
use Rattle.std.specs.Prelude.{◌≡◌, ◌==◌, Bool, max, length, not}
use Rattle.sj_acceptance.specs.Accepted.{IsAccepted}
use Rattle.sj_lang.specs.FileAt.{FileAt}
use Rattle.sj_node.specs.declared.node.Node.{Node}
use Rattle.sj_node.specs.Node.{requests_of, steps_of, wants_of}
use Rattle.sj_plain.specs.SharedFile.{without_words}
use Rattle.sj_rules.specs.History.{IsHistory, IsQuietAmong}
use Rattle.sj_rules.specs.Party.{play_of}
use Rattle.sj_told.specs.declared.told.Stand.{Stand}
use Rattle.sj_told.specs.Still.{still_state}
use Rattle.sj_core.specs.declared.node_world.NodeWorld.{NodeWorld}
use Rattle.sj_core.specs.NodeWorld.{file_in, history_in, world_in}

-- the history is one of that accepted file, which the world keeps, and leaves nothing to do
pub record IsQuietOf (file : FileAt) (c : NodeWorld) : Type 0 where
  pub accepted : IsAccepted file
  pub kept : file_in c ≡ without_words file
  pub run : IsHistory max file (history_in c) (world_in c)
  pub quiet : IsQuietAmong (play_of file) (length file.parties) (world_in c)

-- how the party of a node stands that can't act
abbrev pub stand_seen : Node → Stand
stand_seen n = record { steps = steps_of n; state = still_state (steps_of n) (wants_of n) }

-- the node's party opened a session
abbrev pub has_opened : Node → Bool
has_opened n = not (requests_of n == 0)
