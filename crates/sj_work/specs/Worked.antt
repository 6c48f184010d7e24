-- What one call of a worker did.
use Rattle.std.specs.Prelude.{◌≡◌, ◌↔◌, ℕ, IsSome, Option, Some, None}
use Rattle.sj_lang.specs.Place.{Place}
use Rattle.sj_rules.specs.Work.{LostAt}
use Rattle.sj_lane.specs.declared.lane.OutLane.{Ghosts as OutLane}
use Rattle.sj_lane.specs.declared.lane.InLane.{Ghosts as InLane}
use Rattle.sj_node.specs.Reading.{IsFinished}
use Rattle.sj_work.specs.declared.worker.Stop.{Stop}
use Rattle.sj_work.specs.declared.worker.Stop.TheVariants as stops
use Rattle.sj_work.specs.declared.worker.Worker.{Worker}
use Rattle.sj_work.specs.Causes.{Cause, Loses}
use Rattle.sj_work.specs.Views.{node_of, stop_of}
use Rattle.sj_work.specs.Went.{Went}

-- the stop that stays whatever is called, if any
abbrev pub kept_stop : Option Stop → Option Stop
kept_stop (Some stops.NoMemory) = Some stops.NoMemory
kept_stop (Some stops.Fault) = Some stops.Fault
kept_stop (Some stops.Unfit) = Some stops.Unfit
kept_stop _ = None

module _ {O I : Type 0} (outward : OutLane O) (inward : InLane I) where
  -- so it went, and its stop, if it has one, has its cause. It has finished exactly where that is
  -- the stop, and a frame is lost only with a stop that says so
  pub record Turned (looks : ℕ) (old new : Worker O I) : Type 0 where
    pub lost : Option (LostAt Place)
    pub went : Went outward inward lost old new
    pub loses : Loses lost (stop_of new)
    pub finished : (stop_of new ≡ Some stops.Finished) ↔ IsFinished (node_of new)
    pub cause : Cause outward inward (stop_of new) looks lost old new

  -- where a stop stays nothing changes, else there were turns up to a stop
  abbrev pub WorkedBy : Option Stop → (looks : ℕ) → (old new : Worker O I) → Type 0
  WorkedBy (Some stop) looks old new = new ≡ old
  WorkedBy None looks old new = IsSome (stop_of new) × Turned looks old new

  -- one call of a worker with so many looks
  abbrev pub Worked : (looks : ℕ) → (old new : Worker O I) → Type 0
  Worked looks old new = WorkedBy (kept_stop (stop_of old)) looks old new
