-- Lines that are done again.
use Rattle.std.specs.Prelude.{◌≡◌, ℕ, max, ⊤, List, ◌++◌, map, Option, Some, option_map}
use Rattle.sj_end.specs.declared.misfit.Misfit.{Misfit}
use Rattle.sj_end.specs.declared.note.Line.{Line}
use Rattle.sj_lang.specs.FileAt.{FileAt}
use Rattle.sj_rules.specs.History.{IsLog, IsMisfit, due, IsFirstMisfit}
use Rattle.sj_rules.specs.Log.{LineAt}
use Rattle.sj_rules.specs.Party.{play_of}
use Rattle.sj_core.specs.declared.node_world.NodeWorld.{NodeWorld}
use Rattle.sj_core.specs.declared.refusal.ReplayRefusal.{ReplayRefusal}
use Rattle.sj_core.specs.declared.refusal.ReplayRefusal.TheVariants as refusals
use Rattle.sj_core.specs.NodeWorld.{file_in, history_in, world_in}
use Rattle.sj_core.specs.Views.{line_at}

-- each line is the one that is due, and they lead from the one to the other
pub record Follows (c : NodeWorld) (lines : List LineAt) (d : NodeWorld) : Type 0 where
  pub log : IsLog (play_of (file_in c)) max (world_in c) lines (world_in d)
  pub listed : history_in d ≡ history_in c ++ lines

-- the line that is due there is another, or there is none
pub record IsOther (c : NodeWorld) (number : ℕ) (line : Line) (m : Misfit) : Type 0 where
  pub number_is : m.number ≡ number
  pub line_is : m.logged ≡ line
  pub found : due (play_of (file_in c)) max (world_in c) (line_at line).party (line_at line).entry.event ≡ option_map line_at m.due
  pub differs : option_map line_at m.due ≡ Some (line_at line) → ⊥

abbrev pub IsMisfitHere : NodeWorld → ℕ → Line → ReplayRefusal → Type 0
IsMisfitHere c number line (refusals.Misfit m) = IsOther c number line m
IsMisfitHere c number line refusals.NoMemory = ⊤

-- the first line that isn't the one that is due; those before it are done, and no other
pub record StopsAt (c : NodeWorld) (lines : List LineAt) (number : ℕ) (logged : LineAt) (other : Option LineAt) (d : NodeWorld) : Type 0 where
  pub misfit : IsMisfit (play_of (file_in c)) max (world_in c) lines number logged other
  pub done : Follows c misfit.before d

-- from the start of the file on, that is the first line that isn't the one that is due
abbrev pub IsMisfitFrom : FileAt → List LineAt → ReplayRefusal → Type 0
IsMisfitFrom file lines (refusals.Misfit m) = IsFirstMisfit max file lines m.number (line_at m.logged) (option_map line_at m.due)
IsMisfitFrom file lines refusals.NoMemory = ⊤

-- some of the lines are done, in order
pub record StopsWithin (c : NodeWorld) (lines : List LineAt) (d : NodeWorld) : Type 0 where
  pub before : List LineAt
  pub after : List LineAt
  pub all : lines ≡ before ++ after
  pub done : Follows c before d

-- where lines are refused, and what is done then
abbrev pub IsRefusedSo : NodeWorld → List Line → ReplayRefusal → NodeWorld → Type 0
IsRefusedSo c lines (refusals.Misfit m) d = StopsAt c (map line_at lines) m.number (line_at m.logged) (option_map line_at m.due) d
IsRefusedSo c lines refusals.NoMemory d = StopsWithin c (map line_at lines) d
