use Rattle.std.proofs.Common.{◌≡◌, map}
use Rattle.sj_work.specs.Views.{lanes_of}
use Rattle.sj_run.specs.Workers.{AreLogs}
use Rattle.sj_seat_run.proofs.remains.take_apart.Given as goal

-- the lanes and logs so far
abbrev pub invariant-loop-worker : goal.invariant-loop-worker
invariant-loop-worker g l = (l.lanes.items ≡ map lanes_of l.yielded) × AreLogs l.yielded l.logs.items
