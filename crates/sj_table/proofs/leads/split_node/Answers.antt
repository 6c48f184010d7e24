use Rattle.std.proofs.Common.{◌≡◌, ℕ, ◌-◌, suc, subst, arith}
use Rattle.sj_lang.specs.View.{followed}
use Rattle.sj_table.specs.Table.{at_node, places_of}
use Rattle.sj_table.proofs.NodeLemmas.{at_node-places_of, next_there, past_the_nodes, node_0}
use Rattle.sj_table.proofs.leads.split_node.Goals.{then-node-eq0-via-then-node-eq0, then-node-eq0-via-else-node-eq0+then-rows-node}
use Rattle.sj_table.proofs.leads.split_node.Goals as goal

pub returns-then-node-eq0-clause-item : goal.returns-then-node-eq0-clause-item
returns-then-node-eq0-clause-item c = elim c.then-node-eq0.branch [
  | then-node-eq0-via-then-node-eq0 w ↦ rw (w.if-node-eq0.true) (node_0 c.args.rows.now)
  | then-node-eq0-via-else-node-eq0+then-rows-node w ↦ past_the_nodes c.args.rows.now c.args.node w.if-rows-node.true
]

pub returns-clause-item : goal.returns-clause-item
returns-clause-item c =
    let rows = c.args.rows.now in
    let s = c.index-rows-node.result in
    let e : suc (c.args.node - 1) ≡ c.args.node = omega arith in
    subst (λ (n : ℕ). at_node (places_of rows) n ≡ followed s.item (at_node (places_of rows) s.next)) e
    (at_node-places_of rows (c.args.node - 1) s (omega arith) c.index-rows-node.is (c.requires.each (c.args.node - 1) s (omega arith) c.index-rows-node.is).back)

pub returns-clause-there : goal.returns-clause-there
returns-clause-there c = next_there c.args.rows.now (c.args.node - 1) c.index-rows-node.result c.requires (omega arith) c.index-rows-node.is
