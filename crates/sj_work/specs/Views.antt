-- What is seen of a worker: its node, its lanes, its last answer, and how many turns in a row had
-- no event.
use Rattle.std.specs.Prelude.{ℕ, slice_get, Option, Some, None}
use Rattle.sj_end.specs.declared.note.Line.{Line}
use Rattle.sj_lane.specs.declared.lane.Lanes.{Lanes}
use Rattle.sj_node.specs.declared.node.Node.{Node}
use Rattle.sj_work.specs.declared.worker.Outcome.{Outcome}
use Rattle.sj_work.specs.declared.worker.Outcome.TheVariants as answers
use Rattle.sj_work.specs.declared.worker.Stop.{Stop}
use Rattle.sj_work.specs.declared.worker.Stop.TheVariants as stops
use Rattle.sj_work.specs.declared.worker.Worker.{Worker}

-- the stop that an answer says
abbrev pub stop_at : Outcome → Stop
stop_at answers.Finished = stops.Finished
stop_at answers.Idle = stops.Idle
stop_at answers.AtLimit = stops.AtLimit
stop_at answers.ClockEnd = stops.ClockEnd
stop_at answers.NoMemory = stops.NoMemory
stop_at answers.Fault = stops.Fault
stop_at (answers.Unfit line) = stops.Unfit

abbrev pub stop_in : Option Outcome → Option Stop
stop_in None = None
stop_in (Some answer) = Some (stop_at answer)

-- the line of what didn't fit, of such a stop alone
abbrev pub line_at : Outcome → Option Line
line_at answers.Finished = None
line_at answers.Idle = None
line_at answers.AtLimit = None
line_at answers.ClockEnd = None
line_at answers.NoMemory = None
line_at answers.Fault = None
line_at (answers.Unfit line) = Some line

abbrev pub line_in : Option Outcome → Option Line
line_in None = None
line_in (Some answer) = line_at answer

module _ {O I : Type 0} where
  abbrev pub node_of : Worker O I → Node
  node_of w = w.node

  abbrev pub lanes_of : Worker O I → Lanes O I
  lanes_of w = w.lanes

  -- the last answer of `work`, if there was one
  abbrev pub stop_of : Worker O I → Option Stop
  stop_of w = stop_in w.answer

  -- the line of what didn't fit
  abbrev pub unfit_of : Worker O I → Option Line
  unfit_of w = line_in w.answer

  -- how many turns in a row had no event
  abbrev pub looks_of : Worker O I → ℕ
  looks_of w = w.looks

  -- the lane to that party
  abbrev pub out_of : Worker O I → ℕ → Option O
  out_of w q = slice_get w.lanes.outs.items q

  -- the lane from that party
  abbrev pub in_of : Worker O I → ℕ → Option I
  in_of w q = slice_get w.lanes.ins.items q

  -- the same worker with other lanes
  abbrev pub with_lanes : Worker O I → Lanes O I → Worker O I
  with_lanes w lanes = record w { lanes = lanes }
