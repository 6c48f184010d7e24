use Rattle.std.proofs.Common.{◌≡◌, ◌-◌, ◌≤◌, length, drop, if◌then◌else◌}
use Rattle.sj_grammar.specs.Lexis.{next_of, in_comment}
use Rattle.sj_proto.proofs.scan.find.Given as goal

abbrev pub invariant-loop-i : goal.invariant-loop-i
invariant-loop-i l = record {
  later : l.at ≤ l.i;
  within : l.i ≤ length l.bytes;
  same : (if l.in_comment then in_comment (drop l.i l.bytes) else next_of (drop l.i l.bytes)) ≡ next_of (drop l.at l.bytes);
}

abbrev pub decreases-loop-i : goal.decreases-loop-i
decreases-loop-i l = length l.bytes - l.i
