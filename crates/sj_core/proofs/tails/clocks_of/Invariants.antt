use Rattle.std.proofs.Common.{◌≡◌, take}
use Rattle.sj_core.specs.Tails.{last_clocks}
use Rattle.sj_core.proofs.tails.clocks_of.Given as goal

-- the clocks of the logs so far
abbrev pub invariant-loop-log : goal.invariant-loop-log
invariant-loop-log l = l.clocks.items ≡ last_clocks (take l.log-index l.logs)
