use Rattle.std.proofs.Common.{◌≡◌, ◌-◌, ◌≤◌, Some, drop, length}
use Rattle.sj_rules.specs.Opened.{smallest, smallest_from}
use Rattle.sj_offers.proofs.offers.smallest_of.Given as goal

-- the smallest is the smallest of the number so far and those that are left
abbrev pub invariant-loop-at : goal.invariant-loop-at
invariant-loop-at l = (l.at ≤ length l.numbers) × (smallest l.numbers ≡ Some (smallest_from l.least (drop l.at l.numbers)))

abbrev pub decreases-loop-at : goal.decreases-loop-at
decreases-loop-at l = length l.numbers - l.at
