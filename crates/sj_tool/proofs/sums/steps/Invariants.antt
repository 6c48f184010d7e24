use Rattle.std.proofs.Common.{◌≡◌, ◌+◌, drop}
use Rattle.std.specs.Prelude.{sum_by}
use Rattle.sj_plain.specs.Plain.{world_at}
use Rattle.sj_tool.proofs.sums.steps.Given as goal

-- the sum so far and that of the parties ahead are the whole
abbrev pub invariant-loop-i : goal.invariant-loop-i
invariant-loop-i l = l.count + sum_by (λ g. g.steps) (drop l.i (world_at l.plain).parties) ≡ sum_by (λ g. g.steps) (world_at l.plain).parties
