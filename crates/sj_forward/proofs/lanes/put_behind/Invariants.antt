use Rattle.std.proofs.Common.{◌≡◌, ◌-◌, ◌≤◌, ◌++◌, length, map}
use Rattle.std.specs.VecDeque.{deque_capacity, deque_len}
use Rattle.sj_forward.specs.Outs.{inward}
use Rattle.sj_forward.specs.Views.{frame_at, sent_at}
use Rattle.sj_forward.proofs.lanes.put_behind.Given as goal

-- what is there, and what is left to be put there, are all
abbrev pub invariant-loop-sent : goal.invariant-loop-sent
invariant-loop-sent l = record {
  all : map frame_at l.out.items ++ inward l.end l.hop (map sent_at l.messages.items) ≡ map frame_at l.initial.out.items ++ inward l.end l.hop (map sent_at l.initial.messages.items);
  room : length l.messages.items ≤ deque_capacity l.out - deque_len l.out;
}

abbrev pub decreases-loop-sent : goal.decreases-loop-sent
decreases-loop-sent l = deque_len l.messages
