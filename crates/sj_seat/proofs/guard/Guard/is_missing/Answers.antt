use Rattle.sj_seat.proofs.HoldingLemmas.{held_missing}
use Rattle.sj_seat.proofs.guard.Guard.is_missing.Goals as goal

pub returns : goal.returns
returns c = let g = c.args.self.now in held_missing g.table.now g.ends.now c.args.end c.is_none.result c.spot_held.result c.spot_held.ensures c.is_none.ensures
