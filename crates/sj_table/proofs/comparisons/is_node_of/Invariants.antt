use Rattle.std.proofs.Common.{◌≡◌, ◌↔◌, drop}
use Rattle.sj_lang.specs.View.{place_of}
use Rattle.sj_table.specs.Table.{at_node, places_of}
use Rattle.sj_table.proofs.comparisons.is_node_of.Given as goal

-- what is left is equal just where the whole is
abbrev pub invariant-loop-item : goal.invariant-loop-item
invariant-loop-item l =
    let places = places_of l.rows in
    (at_node places l.at ≡ place_of (drop l.item-index l.items)) ↔ (at_node places l.node ≡ place_of l.items)
