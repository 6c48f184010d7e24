use Rattle.std.specs.Prelude.{◌-◌}
use Rattle.uses.specs.DequeLanes.{AreInColumns, AreNewRows, AreOutRows}
use Rattle.uses.proofs.deques.lanes_of.Given as goal

-- so many parties have their lanes, and those of the others are left
abbrev pub invariant-loop : goal.invariant-loop
invariant-loop l =
    AreNewRows l.parties l.counter l.lanes.items × AreOutRows l.parties (l.parties - l.counter) l.rows.items × AreInColumns l.parties (l.parties - l.counter) l.columns.items
