use Rattle.std.proofs.Common.{◌≡◌, ◌+◌, drop}
use Rattle.std.specs.Prelude.{sum_by}
use Rattle.sj_tool.proofs.sums.steps_told.Given as goal

-- the sum so far and that of the parties ahead are the whole
abbrev pub invariant-loop-stand : goal.invariant-loop-stand
invariant-loop-stand l = l.count + sum_by (λ s. s.steps) (drop l.stand-index l.stands) ≡ sum_by (λ s. s.steps) l.stands
