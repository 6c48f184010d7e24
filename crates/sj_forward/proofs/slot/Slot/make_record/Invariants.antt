use Rattle.std.proofs.Common.{◌+◌, ◌-◌, vec_len}
use Rattle.sj_forward.specs.Ends.{SlotStays}
use Rattle.sj_forward.proofs.slot.Slot.make_record.Given as goal

-- the same is kept
abbrev pub invariant-loop-self : goal.invariant-loop-self
invariant-loop-self l = SlotStays l.initial.self l.self

abbrev pub decreases-loop-self : goal.decreases-loop-self
decreases-loop-self l = l.hop + 1 - vec_len l.self.records
