-- Which events of a run's history the drain did.
use Rattle.std.specs.Prelude.{ℕ, List, drop, length, map, max, take}
use Rattle.sj_lang.specs.FileAt.{FileAt}
use Rattle.sj_lang.specs.Place.{Place}
use Rattle.sj_rules.specs.Drain.{IsDrained}
use Rattle.sj_rules.specs.History.{IsHistory, turn_of}
use Rattle.sj_rules.specs.Log.{LineAt}
use Rattle.sj_rules.specs.Party.{play_of}
use Rattle.sj_rules.specs.World.{WorldAt}
use Rattle.sj_semantics.specs.Program.{Program}

-- the events after the first so many are those of a drain, from where these lead to that world
pub record DrainsRest (file : FileAt) (many : ℕ) (history : List LineAt) (core : WorldAt Place Program) : Type 0 where
  pub left : WorldAt Place Program
  pub leads : IsHistory max file (take many history) left
  pub drained : IsDrained (play_of file) max (length file.parties) left (map turn_of (drop many history)) core
