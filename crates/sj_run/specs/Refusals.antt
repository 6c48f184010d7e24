-- Refusals of a run, with the workers and lanes of which they come.
use Rattle.std.specs.Prelude.{◌≡◌, ℕ, Bool, List, map, Option, option_map}
use Rattle.sj_lane.specs.declared.lane.OutLane.{Ghosts as OutLane}
use Rattle.sj_lane.specs.declared.lane.InLane.{Ghosts as InLane}
use Rattle.sj_core.specs.declared.refusal.ReplayRefusal.{ReplayRefusal}
use Rattle.sj_core.specs.declared.refusal.ReplayRefusal.TheVariants as replays
use Rattle.sj_end.specs.declared.note.Line.{Line}
use Rattle.sj_end.specs.Lines.{line_at}
use Rattle.sj_lang.specs.Place.{Place}
use Rattle.sj_lang.specs.FileAt.{FileAt}
use Rattle.sj_semantics.specs.Program.{Program}
use Rattle.sj_rules.specs.Log.{LineAt}
use Rattle.sj_rules.specs.World.{WorldAt}
use Rattle.sj_work.specs.declared.worker.Worker.{Worker}
use Rattle.sj_run.specs.Damage.{IsDamage, IsRefusedAfter}
use Rattle.sj_run.specs.Left.{left_of}
use Rattle.sj_run.specs.Workers.{AllWorked}
use Rattle.sj_run.specs.declared.refusal.RunRefusal.{RunRefusal}
use Rattle.sj_run.specs.declared.refusal.RunRefusal.TheVariants as refusals

-- why lines weren't replayed, as a refusal of the run
abbrev pub run_refusal : ReplayRefusal → RunRefusal
run_refusal (replays.Misfit m) = refusals.Damaged m
run_refusal replays.NoMemory = refusals.NoMemory

-- that line was refused after the lines of a history that leads to that world, which is damage
abbrev pub IsPastEndOf : FileAt → WorldAt Place Program → List LineAt → Line → RunRefusal → Type 0
IsPastEndOf file core lines refused (refusals.Damaged m) =
    (m.logged ≡ refused) × IsRefusedAfter file core lines m.number (line_at refused) (option_map line_at m.due)
IsPastEndOf file core lines refused refusals.LinkFault = ⊥
IsPastEndOf file core lines refused refusals.NoMemory = ⊥

module _ {O I : Type 0} (outward : OutLane O) (inward : InLane I) (joined : O → I → Type 0) (file : FileAt) (looks : ℕ) (tells : Bool) where
  -- the damage is in what workers left that worked over such lanes
  pub record IsDamageOver (number : ℕ) (logged : LineAt) (other : Option LineAt) : Type 0 where
    pub workers : List (Worker O I)
    pub worked : AllWorked outward inward joined file looks tells workers
    pub damage : IsDamage file number logged other
    pub theirs : damage.left ≡ map left_of workers

  -- what is damaged so
  abbrev pub IsDamagedOver : RunRefusal → Type 0
  IsDamagedOver (refusals.Damaged m) = IsDamageOver m.number (line_at m.logged) (option_map line_at m.due)
  IsDamagedOver refusals.LinkFault = Unit {0}
  IsDamagedOver refusals.NoMemory = Unit {0}
