use Rattle.std.proofs.Common.{◌↔◌, map, drop}
use Rattle.sj_core.specs.Views.{entry_at}
use Rattle.sj_rules.specs.Log.{IsRising}
use Rattle.sj_join.proofs.logs.rise.Given as goal

abbrev pub invariant-loop-line : goal.invariant-loop-line
invariant-loop-line l = IsRising l.clock (map entry_at (map (λ k. k.entry) (drop l.line-index l.lines))) ↔ IsRising 0 (map entry_at (map (λ k. k.entry) l.lines))
