use Rattle.std.proofs.Common.{◌≡◌, ◌+◌, ◌-◌, ◌≤◌, length, drop}
use Rattle.std.specs.List.{prefix_len}
use Rattle.sj_grammar.specs.Classes.{in_class}
use Rattle.sj_proto.proofs.bytes.run_end.Given as goal

abbrev pub invariant-loop-i : goal.invariant-loop-i
invariant-loop-i l = record {
  later : l.at ≤ l.i;
  within : l.i ≤ length l.bytes;
  run : l.i + prefix_len (in_class l.class) (drop l.i l.bytes) ≡ l.at + prefix_len (in_class l.class) (drop l.at l.bytes);
}

abbrev pub decreases-loop-i : goal.decreases-loop-i
decreases-loop-i l = length l.bytes - l.i
