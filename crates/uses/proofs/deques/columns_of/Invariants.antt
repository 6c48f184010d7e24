use Rattle.uses.specs.DequeLanes.{AreInColumns}
use Rattle.uses.proofs.deques.columns_of.Given as goal

abbrev pub invariant-loop-to : goal.invariant-loop-to
invariant-loop-to l = AreInColumns l.parties l.to l.columns.items
