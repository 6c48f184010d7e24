use Rattle.std.proofs.Common.{◌≡◌, ℕ, ◌-◌, slice_index_or, vec_len}
use Rattle.sj_check.proofs.flat.grow.Given as goal

abbrev pub invariant-loop-blank : goal.invariant-loop-blank
invariant-loop-blank o l = (q : ℕ) → slice_index_or l.table.items q l.blank ≡ slice_index_or l.fn.table.items q l.blank

abbrev pub decreases-loop-blank : goal.decreases-loop-blank
decreases-loop-blank o l = l.len - vec_len l.table
