use Rattle.std.proofs.Common.{◌≡◌, ◌≤◌, ◌++◌, length}
use Rattle.std.specs.Prelude.{vec_capacity}
use Rattle.rtrb.specs.Ring.{SameConsumer, known_items, received}
use Rattle.sj_lane.proofs.columns.rest_of.Given as goal

-- what was popped so far stands in front of what is known to wait
abbrev pub invariant-loop : goal.invariant-loop
invariant-loop l =
    SameConsumer l.initial.lane.consumer l.lane.consumer
    × (received l.lane.consumer ≡ received l.initial.lane.consumer ++ l.frames.items)
    × (known_items l.initial.lane.consumer ≡ l.frames.items ++ known_items l.lane.consumer)
    × (l.lane.vain ≡ l.initial.lane.vain)
    × (l.lane.handed ≡ l.initial.lane.handed)
    × (length l.frames.items ≡ l.counter)
    × (l.many ≤ vec_capacity l.frames)
    × (length (known_items l.initial.lane.consumer) ≡ l.many)
