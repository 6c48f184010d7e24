use Rattle.std.proofs.Common.{ap, arith}
use Rattle.sj_plain.specs.Ends.{session_at}
use Rattle.sj_plain.proofs.UseLemmas.{end_there, map-set}
use Rattle.sj_plain.proofs.uses.hand_on.Goals as goal

pub hand_on-requires : goal.hand_on-requires
hand_on-requires c = λ t.
    let it = end_there t c.args.sessions.now.items c.args.end c.index_mut-session.result.now (omega (arith, c.requires.there)) c.index_mut-session.ensures.value in
    omega (arith, c.requires.few t, ap (λ e. e.hops) it)

pub returns : goal.returns
returns c = λ t party. map-set (session_at t) c.args.sessions.now.items c.args.end.sess c.index_mut-session.result.now c.hand_on.new.self _ (omega (arith, c.requires.there)) c.index_mut-session.ensures.value (c.hand_on.ensures t party)
