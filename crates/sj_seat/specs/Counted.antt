-- What the lanes of a worker counted meanwhile.
use Rattle.std.specs.Prelude.{◌≡◌, ◌⊎◌, ℕ, Some}
use Rattle.sj_lane.specs.declared.lane.OutLane.{Ghosts as OutLane}
use Rattle.sj_lane.specs.declared.lane.InLane.{Ghosts as InLane}
use Rattle.sj_work.specs.Causes.{MetFault}
use Rattle.sj_work.specs.Counts.{OnLane, Stands}
use Rattle.sj_work.specs.Views.{in_of, out_of, stop_of}
use Rattle.sj_work.specs.declared.worker.Stop.TheVariants as stops
use Rattle.sj_work.specs.declared.worker.Worker.{Worker}

module _ {O I : Type 0} (outward : OutLane O) (inward : InLane I) where
  -- no lane's count of faults fell. Where the worker stopped at a fault it had done so before, or
  -- some count rose
  pub record Counted (old new : Worker O I) : Type 0 where
    pub outs : (q : ℕ) → OnLane outward.faults Stands (out_of old q) (out_of new q)
    pub ins : (q : ℕ) → OnLane inward.faults Stands (in_of old q) (in_of new q)
    pub fault : stop_of new ≡ Some stops.Fault → (stop_of old ≡ Some stops.Fault) ⊎ MetFault outward.faults inward.faults old new
