use Rattle.std.proofs.Common.{◌≡◌, ◌≤◌}
use Rattle.sj_remote_seat.specs.Steps.{Steps}
use Rattle.sj_remote_seat.proofs.acts.ask_for.Given as goal

-- nothing was done yet
abbrev pub invariant-loop : goal.invariant-loop
invariant-loop g l = record { still : l.guest ≡ l.fn.guest; few : l.asked ≤ 1000; steps : Steps g.C.Code.step l.fn.code l.code }
