use Rattle.std.proofs.Common.{◌+◌, ℕ, List, length, ap, sym, ◌∙◌, subst}
use Rattle.sj_table.specs.declared.leads.Row.{Row}
use Rattle.sj_table.specs.Nodes.{Grown}
use Rattle.sj_table.specs.Table.{at_node, places_of}
use Rattle.sj_table.proofs.GrownLemmas.{grown_push, pushed_place}
use Rattle.sj_table.proofs.builders.add_node.Goals as goal

pub returns-clause-leads : goal.returns-clause-leads
returns-clause-leads c =
    let s : Row = record { item = c.args.item; next = c.args.next; inside = c.args.inside } in
    let old : List Row = c.args.rows.now.items in
    ap (λ (n : ℕ). at_node (places_of c.add_row.new.rows.items) n) c.in_ok-node.ensures.node
    ∙ ap (λ (t : List Row). at_node (places_of t) (length old + 1)) c.in_ok-node.ensures.pushed
    ∙ pushed_place old s c.requires.next

pub returns-clause-grown : goal.returns-clause-grown
returns-clause-grown c =
    let s : Row = record { item = c.args.item; next = c.args.next; inside = c.args.inside } in
    subst (λ (t : List Row). Grown c.args.rows.now.items t) (sym c.in_ok-node.ensures.pushed) (grown_push c.args.rows.now.items s c.requires.next c.requires.entered)
