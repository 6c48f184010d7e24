-- The history of a core run in which several parties are played by code of their own.
use Rattle.std.specs.Prelude.{ℕ, List, map}
use Rattle.sj_lang.specs.FileAt.{FileAt}
use Rattle.sj_lang.specs.Place.{Place}
use Rattle.sj_rules.specs.Events.{acts_in}
use Rattle.sj_rules.specs.History.{IsLog, turn_of}
use Rattle.sj_rules.specs.Log.{LineAt}
use Rattle.sj_rules.specs.World.{WorldAt}
use Rattle.sj_seat_laws.specs.SeatedPlay.{Player, seated_play}
use Rattle.sj_seat_laws.specs.SeatsStart.{Callers, seats_core}

-- the lines are the history of a core run with that choice of bases, which ends in that world
abbrev pub IsSeatsHistory : (ℕ → ℕ → ℕ) → FileAt → Callers → List LineAt → WorldAt Place Player → Type 0
IsSeatsHistory pick file calls lines core = IsLog (seated_play file) pick (seats_core file calls) lines core

-- the parties of its acts, in order
abbrev pub acts_of : List LineAt → List ℕ
acts_of lines = acts_in (map turn_of lines)
