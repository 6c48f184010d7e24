-- What one round of a party did that has nothing to do of its own: it takes what came, and pushes
-- what waits.
use Rattle.std.specs.Prelude.{◌≡◌, IsSome, ⊤, Option, Some, None}
use Rattle.sj_lang.specs.Place.{Place}
use Rattle.sj_rules.specs.Work.{LostAt}
use Rattle.sj_lane.specs.declared.lane.OutLane.{Ghosts as OutLane}
use Rattle.sj_lane.specs.declared.lane.InLane.{Ghosts as InLane}
use Rattle.sj_node.specs.Reading.{IsFinished}
use Rattle.sj_work.specs.declared.worker.Stop.{Stop}
use Rattle.sj_work.specs.declared.worker.Stop.TheVariants as stops
use Rattle.sj_work.specs.declared.worker.Worker.{Worker}
use Rattle.sj_work.specs.Causes.{Cause, Loses}
use Rattle.sj_work.specs.Views.{node_of, stop_of}
use Rattle.sj_work.specs.Went.{OutVain, Went}

-- nothing keeps the party from another round
abbrev pub MayGoOn : Option Stop → Type 0
MayGoOn (Some stops.Finished) = ⊤
MayGoOn (Some stops.Idle) = ⊤
MayGoOn (Some stops.AtLimit) = ⊥
MayGoOn (Some stops.ClockEnd) = ⊥
MayGoOn (Some stops.NoMemory) = ⊥
MayGoOn (Some stops.Fault) = ⊥
MayGoOn (Some stops.Unfit) = ⊥
MayGoOn None = ⊥

module _ {O I : Type 0} (outward : OutLane O) (inward : InLane I) where
  -- the cause of each answer: that of a turn, but a party is idle wherever its node isn't finished
  abbrev pub AttendCause : Option Stop → Option (LostAt Place) → (old new : Worker O I) → Type 0
  AttendCause (Some stops.Idle) lost old new = IsFinished (node_of new) → ⊥
  AttendCause stop lost old new = Cause outward inward stop 0 lost old new

  -- so it went, and its stop has its cause. A frame is lost only with a stop that says so. Where it
  -- may go on, lanes took what waited as far as they could
  pub record Attended (old new : Worker O I) : Type 0 where
    pub lost : Option (LostAt Place)
    pub went : Went outward inward lost old new
    pub loses : Loses lost (stop_of new)
    pub cause : AttendCause (stop_of new) lost old new
    pub pushed : MayGoOn (stop_of new) → OutVain outward.vain 1 old new

  -- where a stop stays nothing changes, else there was a round
  abbrev pub AttendedBy : Option Stop → (old new : Worker O I) → Type 0
  AttendedBy (Some stop) old new = new ≡ old
  AttendedBy None old new = IsSome (stop_of new) × Attended old new
