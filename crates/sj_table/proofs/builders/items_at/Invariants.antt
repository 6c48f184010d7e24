use Rattle.std.proofs.Common.{◌≡◌}
use Rattle.sj_lang.specs.After.{followed_by}
use Rattle.sj_lang.specs.View.{place_of}
use Rattle.sj_table.specs.Table.{at_node, places_of}
use Rattle.sj_table.proofs.builders.items_at.Given as goal

-- the items so far, and those from that node on, are the place
abbrev pub invariant-loop-at : goal.invariant-loop-at
invariant-loop-at l = followed_by (place_of l.items.items) (at_node (places_of l.rows) l.at) ≡ at_node (places_of l.rows) l.node

abbrev pub decreases-loop-at : goal.decreases-loop-at
decreases-loop-at l = l.at
