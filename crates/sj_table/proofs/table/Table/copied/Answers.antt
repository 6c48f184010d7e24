use Rattle.std.proofs.Common.{◌≡◌, ◌∙◌, subst, sym}
use Rattle.std.specs.Arc.{arc_value}
use Rattle.sj_table.specs.Table.{IsWhole, places_of}
use Rattle.sj_table.specs.declared.table.Nodes.{Nodes}
use Rattle.sj_table.proofs.table.Table.copied.Goals as goal

pub invariant_of-result : goal.invariant_of-result
invariant_of-result c = subst (λ (ns : Nodes). IsWhole ns.rows.items ns.starts.items) (sym c.in_ok-nodes.ensures) c.self.invariant

pub returns : goal.returns
returns c =
    let same : arc_value c.in_ok-nodes.nodes ≡ arc_value c.self.inside.nodes = c.in_ok-nodes.ensures in
    (λ i. (places_of (same i).rows.items, (same i).starts.items)) ∙ c.self.view_is
