use Rattle.std.proofs.Common.{◌≡◌, ◌-◌, ℕ, subst, refl, arith, slice_set}
use Rattle.sj_table.specs.declared.leads.Row.{Row}
use Rattle.sj_table.specs.Nodes.{Turned}
use Rattle.sj_table.proofs.builders.turn.Goals as goal

pub returns : goal.returns
returns c = λ at e.
    let i : c.args.node - 1 ≡ at = omega arith in
    let row : Row = record { item = c.index_mut-row.result.now.item; next = c.index_mut-row.result.now.next; inside = c.push.new.self } in
    subst (λ (j : ℕ). Turned j c.args.first c.args.rows.now.items (slice_set c.args.rows.now.items (c.args.node - 1) row)) i record {
      was = c.index_mut-row.result.now;
      is = row;
      there = c.index_mut-row.ensures.value;
      item = refl;
      next = refl;
      inside = c.in_ok-push.ensures.items;
      set = refl;
    }
