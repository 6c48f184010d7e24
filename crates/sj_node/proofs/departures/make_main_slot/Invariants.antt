use Rattle.std.proofs.Common.{◌≡◌, ◌+◌, ◌-◌, vec_len}
use Rattle.sj_node.specs.Slots.{mains_in}
use Rattle.sj_node.proofs.departures.make_main_slot.Given as goal

-- the same main records
abbrev pub invariant-loop-mains : goal.invariant-loop-mains
invariant-loop-mains l = mains_in l.mains.items ≡ mains_in l.initial.mains.items

abbrev pub decreases-loop-mains : goal.decreases-loop-mains
decreases-loop-mains l = l.at + 1 - vec_len l.mains
