-- Why joined logs are refused, over links that don't report what they carried: what the parties
-- left, and the first of it that doesn't fit.
use Rattle.std.specs.Prelude.{◌≡◌, ◌⊎◌, ℕ, ◌+◌, ◌<◌, max, List, length, slice_get, Option, Some, option_map}
use Rattle.sj_lang.specs.Place.{Place}
use Rattle.sj_lang.specs.FileAt.{FileAt}
use Rattle.sj_semantics.specs.Program.{Program}
use Rattle.sj_end.specs.Lines.{line_at}
use Rattle.sj_rules.specs.History.{IsHistory, due, IsFirstMisfit}
use Rattle.sj_rules.specs.Log.{IsJoined, LineAt}
use Rattle.sj_rules.specs.Party.{play_of}
use Rattle.sj_rules.specs.World.{WorldAt}
use Rattle.sj_work.specs.declared.worker.Stop.TheVariants as stops
use Rattle.sj_run.specs.Left.{AllWent, CarriedInOrder, LeftAt, logs_left}
use Rattle.sj_run.specs.declared.refusal.RunRefusal.{RunRefusal}
use Rattle.sj_run.specs.declared.refusal.RunRefusal.TheVariants as refusals

-- the line is what the lowest party refused of those that stopped as unfit
pub record IsLowestUnfit (left : List LeftAt) (line : LineAt) : Type 0 where
  pub party : ℕ
  pub own : LeftAt
  pub there : slice_get left party ≡ Some own
  pub stopped : own.stop ≡ Some stops.Unfit
  pub refused : option_map line_at own.unfit ≡ Some line
  pub lowest : (p : ℕ) (l : LeftAt) → p < party → slice_get left p ≡ Some l → l.stop ≡ Some stops.Unfit → ⊥

-- what was refused after all lines, which isn't what is due there
pub record IsRefusedAfter (file : FileAt) (core : WorldAt Place Program) (lines : List LineAt) (number : ℕ) (logged : LineAt) (other : Option LineAt) : Type 0 where
  pub count : number ≡ length lines + 1
  pub found : due (play_of file) max core logged.party logged.entry.event ≡ other
  pub differs : other ≡ Some logged → ⊥

-- all lines are a history, and what the lowest unfit party refused after them isn't what is due
-- there
pub record IsPastEnd (file : FileAt) (left : List LeftAt) (lines : List LineAt) (number : ℕ) (logged : LineAt) (other : Option LineAt) : Type 0 where
  pub core : WorldAt Place Program
  pub run : IsHistory max file lines core
  pub lowest : IsLowestUnfit left logged
  pub refused : IsRefusedAfter file core lines number logged other

-- the parties did their steps, none stopped at a fault, the links didn't carry in order and
-- unchanged, and the logs were joined to these lines. What is reported is the first of the lines
-- that isn't due, with what is due in its place. Or, after lines that all are due, it is what the
-- lowest unfit party refused
pub record IsDamage (file : FileAt) (number : ℕ) (logged : LineAt) (other : Option LineAt) : Type 0 where
  pub left : List LeftAt
  pub went : AllWent file left
  pub disorder : CarriedInOrder file left → ⊥
  pub lines : List LineAt
  pub joined : IsJoined (logs_left left) lines
  pub cause : IsFirstMisfit max file lines number logged other ⊎ IsPastEnd file left lines number logged other

-- what is damaged
abbrev pub IsDamagedSo : FileAt → RunRefusal → Type 0
IsDamagedSo file (refusals.Damaged m) = IsDamage file m.number (line_at m.logged) (option_map line_at m.due)
IsDamagedSo file refusals.LinkFault = Unit {0}
IsDamagedSo file refusals.NoMemory = Unit {0}

-- the refusal is damage
abbrev pub IsDamaged : RunRefusal → Type 0
IsDamaged (refusals.Damaged m) = Unit {0}
IsDamaged refusals.LinkFault = ⊥
IsDamaged refusals.NoMemory = ⊥
