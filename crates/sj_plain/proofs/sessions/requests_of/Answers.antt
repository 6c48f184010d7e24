use Rattle.std.proofs.Common.{arith}
use Rattle.sj_plain.proofs.OpenedLemmas.{before_next}
use Rattle.sj_plain.proofs.sessions.requests_of.Goals as goal

pub returns : goal.returns
returns c = omega (arith, before_next c.args.opened.now c.args.party, c.own-start.ensures.start, c.own-start.ensures.end)
