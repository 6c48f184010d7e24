use Rattle.std.proofs.Common.{◌≡◌, drop}
use Rattle.sj_lang.specs.MeetTests.{stands_for}
use Rattle.sj_lang.specs.View.{place_of}
use Rattle.sj_table.specs.Table.{at_node, places_of}
use Rattle.sj_table.proofs.comparisons.node_stands_for.Given as goal

-- what is left can stand just where the whole can
abbrev pub invariant-loop-item : goal.invariant-loop-item
invariant-loop-item l =
    let places = places_of l.rows in
    stands_for (at_node places l.at) (place_of (drop l.item-index l.items)) ≡ stands_for (at_node places l.node) (place_of l.items)
