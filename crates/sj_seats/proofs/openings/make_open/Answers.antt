use Rattle.std.proofs.Common.{◌∷◌, ◌++◌, [], ◌∙◌, Some, ap, refl, subst, sym}
use Rattle.sj_seat.specs.Holding.{ends_at}
use Rattle.sj_seat_laws.specs.Guards.{with_opened}
use Rattle.sj_table.specs.declared.table.Table.{Table}
use Rattle.sj_table.specs.Spots.{place_in}
use Rattle.sj_seats.specs.Calling.{OpensSo}
use Rattle.sj_seats.proofs.CalledLemmas.{logged}
use Rattle.sj_seats.proofs.openings.make_open.Goals as goal

pub noted-requires : goal.noted-requires
noted-requires c = logged c.args.node.now c.open_at.new.node (Some c.in-Ok.ensures.ok.called.left) _ _ _ c.in-Ok.ensures.ok.called.did

pub returns-in-Ok-clause-done : goal.returns-in-Ok-clause-done
returns-in-Ok-clause-done c =
    let t = c.args.table.now in
    let chair = c.args.chair.now in
    let spot = c.in-Some.place in
    let end = c.in-Ok.end in
    record {
      mid = c.open_at.new.node;
      end = end;
      spot = spot;
      guarded = c.in-Some.ensures;
      opened = subst (λ (u : Table). OpensSo c.args.node.now c.args.wish (place_in u spot) c.open_at.new.node end) c.requires.over c.in-Ok.ensures.ok;
      took = c.noted.ensures.rest;
      entry = c.noted.ensures.entry;
      ends =
          c.hold.ensures ∙ ap (λ bs. ends_at t bs ++ (end, place_in t spot) ∷ []) c.reserve.ensures.items
          ∙ ap (with_opened (ends_at t chair.ends.items) end) (sym c.in-Some.ensures.begins);
      calls = refl;
      may = refl;
    }
