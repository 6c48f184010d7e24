use Rattle.std.proofs.Common.{◌≡◌, ◌<◌, ◌≤◌, ℕ, length, get_or}
use Rattle.sj_end.specs.declared.frames.Post.{Post}
use Rattle.sj_node.specs.Outs.{room_in, waiting_in}
use Rattle.sj_node.proofs.handovers.make_rooms.Given as goal

abbrev pub invariant-loop-post : goal.invariant-loop-post
invariant-loop-post l = record {
  same : (q : ℕ) → waiting_in l.outs.items q ≡ waiting_in l.initial.outs.items q;
  keeps : (q : ℕ) → room_in l.initial.outs.items q ≤ room_in l.outs.items q;
  room : (k : ℕ) (d : Post) → k < l.post-index → length l.posts ≤ room_in l.outs.items (get_or l.posts k d).to;
}
