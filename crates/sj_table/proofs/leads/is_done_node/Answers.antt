use Rattle.std.proofs.Common.{refl}
use Rattle.sj_table.proofs.NodeLemmas.{done_past, node_0}
use Rattle.sj_table.proofs.leads.is_done_node.Goals as goal

pub returns-then-node-eq0 : goal.returns-then-node-eq0
returns-then-node-eq0 c = rw (c.if-node-eq0.true, node_0 c.args.rows.now) refl

pub returns : goal.returns
returns c = done_past c.args.rows.now c.args.node c.requires c.if-node-eq0.false
