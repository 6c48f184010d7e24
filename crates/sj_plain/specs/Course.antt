-- The world of a course of acts, its acts, and the file that it is of.
use Rattle.std.specs.Prelude.{◌≡◌, ◌≤◌, ℕ, List, ◌++◌, length, map, Some}
use Rattle.sj_lang.specs.FileAt.{FileAt}
use Rattle.sj_lang.specs.FileView.{protocol_of}
use Rattle.sj_lang.specs.Limits.{limits}
use Rattle.sj_machine.specs.Sound.{program_at}
use Rattle.sj_semantics.specs.Run.{IsRun, after_acts}
use Rattle.sj_semantics.specs.State.{opened_in}
use Rattle.sj_semantics.specs.World.{World}
use Rattle.sj_plain.specs.declared.course.Course.{Course}
use Rattle.sj_plain.specs.SharedFile.{file_kept}
use Rattle.sj_plain.specs.Opened.{world_with}
use Rattle.sj_plain.specs.Stepping.{sessions_at}

-- the file without its words
abbrev pub file_in : Course → FileAt
file_in c = file_kept c.kept

-- the protocols, the parties, the sessions and the requests
abbrev pub world_in : Course → World
world_in c = world_with (map protocol_of c.kept.protocols.items) (map program_at c.machines.items) (sessions_at c.table c.sessions.items) c.opened.items

-- who acted, in order
abbrev pub acts_in : Course → List ℕ
acts_in c = c.acts.items

-- the opened sessions lie in order of their numbers
abbrev pub IsOrdered : Course → Type 0
IsOrdered c = c.opened.items ≡ opened_in (world_in c)

-- some acts lead from the one to the other
pub record GoesOn (v w : Course) : Type 0 where
  pub acts : List ℕ
  pub leads : after_acts (world_in v) acts ≡ Some (world_in w)
  pub listed : acts_in w ≡ acts_in v ++ acts
  pub kept : file_in w ≡ file_in v

-- its acts lead from the start of its file to its world, its opened sessions lie in order, and an
-- accepted file has 16 parties and 64 connections at most
pub record IsReached (c : Course) : Type 0 where
  pub run : IsRun (file_in c) (acts_in c) (world_in c)
  pub ordered : IsOrdered c
  pub few : length (world_in c).parties ≤ limits.parties
  pub connects : length (file_in c).connects ≤ limits.connects
