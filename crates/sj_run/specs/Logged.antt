-- What parties that ran by themselves logged, joined.
use Rattle.std.specs.Prelude.{◌≡◌, ℕ, ◌≤◌, max, List, [], map, length}
use Rattle.sj_lang.specs.Place.{Place}
use Rattle.sj_lang.specs.FileAt.{FileAt, body_named}
use Rattle.sj_semantics.specs.Program.{Program}
use Rattle.sj_node.specs.Play.{play_with}
use Rattle.sj_rules.specs.Log.{EntryAt, IsJoined, LineAt}
use Rattle.sj_rules.specs.Node.{NodeAt}
use Rattle.sj_rules.specs.NodeRun.{NodeRun, StepAt}
use Rattle.sj_rules.specs.Start.{first_node}

-- from the start of the file on the party did steps of the rules, and its log has their entries
pub record HasLogged (file : FileAt) (p : ℕ) (log : List EntryAt) : Type 0 where
  pub steps : List (StepAt Place)
  pub node : NodeAt Place Program
  pub run : NodeRun (play_with (body_named file.protocols) (length file.connects) (length file.parties)) max p (first_node file p) steps node
  pub entries : log ≡ map (λ s. s.entry) steps

-- the lines are the logs of the file's parties, and nothing beside them, joined by clock and then
-- by party
pub record AreLogged (file : FileAt) (lines : List LineAt) : Type 0 where
  pub logs : (party : ℕ) → List EntryAt
  pub each : (p : ℕ) → HasLogged file p (logs p)
  pub beside : (p : ℕ) → length file.parties ≤ p → logs p ≡ []
  pub joined : IsJoined logs lines
