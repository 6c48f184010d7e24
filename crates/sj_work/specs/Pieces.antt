-- The pieces of a turn or of a round, whether the node is finished or not.
use Rattle.std.specs.Prelude.{ℕ, Option}
use Rattle.sj_lang.specs.Place.{Place}
use Rattle.sj_rules.specs.Work.{LostAt}
use Rattle.sj_lane.specs.declared.lane.OutLane.{Ghosts as OutLane}
use Rattle.sj_lane.specs.declared.lane.InLane.{Ghosts as InLane}
use Rattle.sj_work.specs.declared.worker.Worker.{Worker}
use Rattle.sj_work.specs.Causes.{Cause, Loses}
use Rattle.sj_work.specs.Views.{stop_of}
use Rattle.sj_work.specs.Went.{Went}

module _ {O I : Type 0} (outward : OutLane O) (inward : InLane I) where
  -- so it went, and its stop, if it has one, has its cause. A frame is lost only with a stop that
  -- says so
  pub record Piece (looks : ℕ) (old new : Worker O I) : Type 0 where
    pub lost : Option (LostAt Place)
    pub went : Went outward inward lost old new
    pub loses : Loses lost (stop_of new)
    pub cause : Cause outward inward (stop_of new) looks lost old new

  -- whatever the number of looks
  abbrev pub Pieces : (old new : Worker O I) → Type 0
  Pieces old new = (looks : ℕ) → Piece looks old new
