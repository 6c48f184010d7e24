use Rattle.sj_seat_end.proofs.AloneLemmas.{alone_after}
use Rattle.sj_seat_end.proofs.alone.alone.Goals as goal

pub returns : goal.returns
returns g c = alone_after c.args.party c.in_ok-codes.codes.items _ c.args.code c.in_ok-codes.ensures c.in_ok-push.ensures.items
