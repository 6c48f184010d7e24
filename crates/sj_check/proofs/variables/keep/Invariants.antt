use Rattle.std.proofs.Common.{◌≡◌, ℕ, None, slice_index, length, nat_lt, if◌then◌else◌}
use Rattle.sj_acceptance.specs.Arms.{agree}
use Rattle.sj_check.specs.Table.{kind_of_byte}
use Rattle.sj_check.proofs.variables.keep.Given as goal

-- below n is done, and the rest is as it was
abbrev pub invariant-loop-n : goal.invariant-loop-n
invariant-loop-n l =
    record {
      len : length l.table ≡ length l.fn.table;
      each : (q : ℕ) → let old = kind_of_byte (slice_index l.fn.table q) in
          kind_of_byte (slice_index l.table q) ≡ (if nat_lt q l.n then (if agree old (kind_of_byte (slice_index l.other q)) then old else None) else old);
    }
