use Rattle.std.proofs.Common.{◌≡◌, ℕ, ◌-◌, option_map, suc, subst, arith}
use Rattle.sj_lang.specs.After.{after_place}
use Rattle.sj_table.specs.Table.{at_node, places_of}
use Rattle.sj_table.proofs.NodeLemmas.{after_node, there_after, past_the_nodes, node_0}
use Rattle.sj_table.proofs.leads.after_node.Goals.{then-node-eq0-via-then-node-eq0, then-node-eq0-via-else-node-eq0+then-rows-node}
use Rattle.sj_table.proofs.leads.after_node.Goals as goal

pub returns-then-node-eq0-clause-place : goal.returns-then-node-eq0-clause-place
returns-then-node-eq0-clause-place c = elim c.then-node-eq0.branch [
  | then-node-eq0-via-then-node-eq0 w ↦ rw (w.if-node-eq0.true, node_0 c.args.rows.now)
  | then-node-eq0-via-else-node-eq0+then-rows-node w ↦ rw (past_the_nodes c.args.rows.now c.args.node w.if-rows-node.true)
]

pub returns-clause-place : goal.returns-clause-place
returns-clause-place c =
    let e : suc (c.args.node - 1) ≡ c.args.node = omega arith in
    subst (λ (n : ℕ). option_map (at_node (places_of c.args.rows.now)) c.after_row.result ≡ after_place (at_node (places_of c.args.rows.now) n) c.args.way c.args.msg.now) e
    (after_node c.args.rows.now (c.args.node - 1) c.index-rows-node.result c.args.way c.args.msg.now c.after_row.result c.requires (omega arith) c.index-rows-node.is (c.after_row.ensures.place (places_of c.args.rows.now)))

pub returns-clause-there : goal.returns-clause-there
returns-clause-there c =
    there_after c.args.rows.now (c.args.node - 1) c.index-rows-node.result c.after_row.result c.requires (omega arith) c.index-rows-node.is (c.after_row.ensures.there (places_of c.args.rows.now))
