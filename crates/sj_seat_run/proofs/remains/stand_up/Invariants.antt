use Rattle.std.proofs.Common.{◌≡◌, is_some, map}
use Rattle.sj_seat_run.specs.Runners.{is_coded, lists_of, opened_at, worker_at}
use Rattle.sj_seat_run.proofs.remains.stand_up.Given as goal

-- the workers, codes and lists so far
abbrev pub invariant-loop-runner : goal.invariant-loop-runner
invariant-loop-runner g l = (l.workers.items ≡ map worker_at l.yielded) × (map is_some l.codes.items ≡ map is_coded l.yielded) × (lists_of l.opened.items ≡ map opened_at l.yielded)
