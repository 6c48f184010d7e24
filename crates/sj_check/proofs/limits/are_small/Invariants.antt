use Rattle.std.proofs.Common.{◌↔◌, ◌≤◌, drop}
use Rattle.std.specs.List.{AllByRecursion}
use Rattle.sj_lang.specs.ItemCount.{item_count}
use Rattle.sj_check.specs.Views.{protocols_of}
use Rattle.sj_check.proofs.limits.are_small.Given as goal

-- all are small exactly where those that are left are
abbrev pub invariant-loop-protocol : goal.invariant-loop-protocol
invariant-loop-protocol l =
    AllByRecursion (λ p. item_count p.body ≤ 1024) (protocols_of (drop l.protocol-index l.protocols)) ↔ AllByRecursion (λ p. item_count p.body ≤ 1024) (protocols_of l.protocols)
