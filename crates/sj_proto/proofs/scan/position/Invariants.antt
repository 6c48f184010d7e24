use Rattle.sj_proto.specs.Found.{IsPosition}
use Rattle.sj_proto.proofs.scan.position.Given as goal

abbrev pub invariant-loop-i : goal.invariant-loop-i
invariant-loop-i l = IsPosition l.bytes l.i l.line l.column
