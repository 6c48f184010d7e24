use Rattle.std.proofs.Common.{◌≡◌, ◌-◌, ◌+◌, ◌≤◌, length, drop}
use Rattle.std.specs.List.{position_or_len}
use Rattle.std.specs.Str.{bytes_eq}
use Rattle.sj_streams.specs.Words.{words_at}
use Rattle.sj_streams.proofs.replies.place_of.Given as goal

abbrev pub invariant-loop-i : goal.invariant-loop-i
invariant-loop-i l = record {
  within : l.i ≤ length l.keys;
  so_far : position_or_len (λ k. bytes_eq k l.key) (words_at l.keys) ≡ l.i + position_or_len (λ k. bytes_eq k l.key) (words_at (drop l.i l.keys));
}

abbrev pub decreases-loop-i : goal.decreases-loop-i
decreases-loop-i l = length l.keys - l.i
