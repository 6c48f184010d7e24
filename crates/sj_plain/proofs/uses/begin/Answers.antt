use Rattle.std.proofs.Common.{arith}
use Rattle.sj_plain.specs.Ends.{session_at}
use Rattle.sj_plain.proofs.UseLemmas.{map-set}
use Rattle.sj_plain.proofs.uses.begin.Goals as goal

pub returns-clause-begun : goal.returns-clause-begun
returns-clause-begun c = λ t party. map-set (session_at t) c.args.sessions.now.items c.args.end.sess c.index_mut-session.result.now c.begin.new.self _ (omega (arith, c.requires)) c.index_mut-session.ensures.value (c.begin.ensures t party)
