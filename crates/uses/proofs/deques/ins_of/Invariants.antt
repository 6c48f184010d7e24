use Rattle.uses.specs.DequeLanes.{AreNewIns}
use Rattle.uses.proofs.deques.ins_of.Given as goal

-- one lane from each party so far
abbrev pub invariant-loop-from : goal.invariant-loop-from
invariant-loop-from l = AreNewIns l.from l.ins
