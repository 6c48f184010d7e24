use Rattle.std.proofs.Common.{◌≡◌, ◌+◌, ◌-◌, vec_len}
use Rattle.sj_node.specs.Slots.{olds_in}
use Rattle.sj_node.proofs.departures.make_slot.Given as goal

-- the same old records
abbrev pub invariant-loop-olds : goal.invariant-loop-olds
invariant-loop-olds l = olds_in l.olds.items ≡ olds_in l.initial.olds.items

abbrev pub decreases-loop-olds : goal.decreases-loop-olds
decreases-loop-olds l = l.at + 1 - vec_len l.olds
