use Rattle.std.proofs.Common.{◌∙◌, sym, ap}
use Rattle.sj_table.specs.Table.{at_node, places_of}
use Rattle.sj_table.proofs.NodeLemmas.{node_0, past_the_nodes}
use Rattle.sj_table.proofs.StartLemmas.{walk_end, walk_next}
use Rattle.sj_table.proofs.builders.items_at.Goals.{then-loop-at-test+else-at-rows, else-loop-at-test}
use Rattle.sj_table.proofs.builders.items_at.Goals as goal

pub loop-at-preserved : goal.loop-at-preserved
loop-at-preserved c =
    walk_next c.args.rows.now c.loop-at.at c.index-rows-at.result c.loop-at.items.items c.push.new.self.items c.in_ok-copied_item.field-0 c.requires c.loop-at-test.true c.if-at-rows.true c.index-rows-at.is c.in_ok-copied_item.ensures c.in_ok-push.ensures.items
    ∙ c.loop-at.invariant

pub returns : goal.returns
returns c =
    elim c.loop-at-test.branch [
      | then-loop-at-test+else-at-rows w ↦ sym (walk_end c.loop-at.items.items (at_node (places_of c.args.rows.now) c.loop-at.at) (past_the_nodes c.args.rows.now c.loop-at.at w.if-at-rows.false)) ∙ c.loop-at.invariant
      | else-loop-at-test w ↦ sym (walk_end c.loop-at.items.items (at_node (places_of c.args.rows.now) c.loop-at.at) (ap (at_node (places_of c.args.rows.now)) w.loop-at-test.false ∙ node_0 c.args.rows.now)) ∙ c.loop-at.invariant
    ]
