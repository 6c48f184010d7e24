use Rattle.std.proofs.Common.{◌∙◌, sym}
use Rattle.sj_seat.proofs.HoldingLemmas.{held_at_none, held_at_spot}
use Rattle.sj_seat.proofs.guard.Guard.place.Goals as goal

pub returns-in-Some : goal.returns-in-Some
returns-in-Some c = let g = c.args.self.now in held_at_spot g.table.now g.ends.now c.args.end c.in-Some.spot (sym c.spot_held.ensures ∙ c.in-Some.is)

pub returns-in-None : goal.returns-in-None
returns-in-None c = let g = c.args.self.now in c.done.ensures.place ∙ held_at_none g.table.now g.ends.now c.args.end (sym c.spot_held.ensures ∙ c.in-None.is)
