use Rattle.std.proofs.Common.{◌∙◌, ap, option_map}
use Rattle.sj_table.specs.Spots.{place_in}
use Rattle.sj_seat.specs.Holding.{spot_held}
use Rattle.sj_seat.proofs.HoldingLemmas.{held_place}
use Rattle.sj_seat.proofs.guest.Guest.ahead.Goals as goal

pub returns : goal.returns
returns g c =
    let a = c.args.self.now in
    ap (option_map (place_in a.table)) (c.spot_held.ensures ∙ ap (λ bs. spot_held bs c.args.end) c.deref.ensures.value) ∙ held_place a.table a.ends.items c.args.end
