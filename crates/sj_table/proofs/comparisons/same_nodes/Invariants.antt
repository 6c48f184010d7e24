use Rattle.std.proofs.Common.{◌≡◌, ◌↔◌}
use Rattle.sj_table.specs.Table.{at_node, places_of}
use Rattle.sj_table.proofs.comparisons.same_nodes.Given as goal

-- what is left is equal just where the whole is
abbrev pub invariant-loop-a : goal.invariant-loop-a
invariant-loop-a l =
    let places = places_of l.rows in
    (at_node places l.a ≡ at_node places l.b) ↔ (at_node places l.one ≡ at_node places l.other)

abbrev pub decreases-loop-a : goal.decreases-loop-a
decreases-loop-a l = l.a
