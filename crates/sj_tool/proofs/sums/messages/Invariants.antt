use Rattle.std.proofs.Common.{◌≡◌, ◌+◌, drop, length}
use Rattle.std.specs.Prelude.{sum_by}
use Rattle.sj_plain.specs.Plain.{world_at}
use Rattle.sj_tool.proofs.sums.messages.Given as goal

-- the sum so far and that of the sessions ahead are the whole
abbrev pub invariant-loop-sess : goal.invariant-loop-sess
invariant-loop-sess l = l.count + sum_by (λ z. length z.first.sent + length z.second.sent) (drop l.sess (world_at l.plain).sessions) ≡ sum_by (λ z. length z.first.sent + length z.second.sent) (world_at l.plain).sessions
