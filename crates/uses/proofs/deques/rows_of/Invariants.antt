use Rattle.uses.specs.DequeLanes.{AreOutRows}
use Rattle.uses.proofs.deques.rows_of.Given as goal

abbrev pub invariant-loop : goal.invariant-loop
invariant-loop l = AreOutRows l.parties l.counter l.rows.items
