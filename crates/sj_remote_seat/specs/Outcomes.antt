-- How a party that code plays stands.
use Rattle.std.specs.Prelude.{◌≡◌, ℕ, Bool, true, false, Option, Some, None}
use Rattle.sj_node.specs.Reading.{IsFinished}
use Rattle.sj_remote_run.specs.declared.outcome.Outcome.{Outcome}
use Rattle.sj_remote_run.specs.declared.outcome.Outcome.TheVariants as outcomes
use Rattle.sj_seat.specs.Views.{node_of, worker_of}
use Rattle.sj_seat.specs.declared.guest.Guest.{Guest}
use Rattle.sj_work.specs.Views.{stop_of}
use Rattle.sj_work.specs.Worked.{kept_stop}
use Rattle.sj_work.specs.declared.worker.Stop.{Stop}
use Rattle.sj_work.specs.declared.worker.Stop.TheVariants as stops

-- it is at a limit, or its clock is at its end
abbrev pub is_at_limit : Option Stop → Bool
is_at_limit (Some stops.AtLimit) = true
is_at_limit (Some stops.ClockEnd) = true
is_at_limit _ = false

-- it has ended where its node is finished; else its worker didn't stop for good, and is at a limit or not
abbrev pub StandsBy : Outcome → {O I G : Type 0} → Guest O I G → Type 0
StandsBy outcomes.Ended g = IsFinished (node_of g)
StandsBy outcomes.Waits g = (kept_stop (stop_of (worker_of g)) ≡ None) × (is_at_limit (stop_of (worker_of g)) ≡ false)
StandsBy outcomes.Limit g = is_at_limit (stop_of (worker_of g)) ≡ true
