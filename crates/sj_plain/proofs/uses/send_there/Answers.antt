use Rattle.std.proofs.Common.{arith}
use Rattle.std.proofs.lemmas.Result.{on_err_weaker, on_ok_weaker}
use Rattle.sj_plain.specs.Ends.{session_at}
use Rattle.sj_plain.proofs.UseLemmas.{map-same, map-set}
use Rattle.sj_plain.proofs.uses.send_there.Goals as goal

pub returns-clause-ok : goal.returns-clause-ok
returns-clause-ok c =
    on_ok_weaker c.send.result
    (λ made. map-set (session_at c.args.table.now) c.args.sessions.now.items c.args.end.sess c.index_mut-session.result.now c.send.new.self _ (omega (arith, c.requires)) c.index_mut-session.ensures.value made)
    c.send.ensures.ok

pub returns-clause-err : goal.returns-clause-err
returns-clause-err c =
    on_err_weaker c.send.result
    (λ same. map-same (session_at c.args.table.now) c.args.sessions.now.items c.args.end.sess c.index_mut-session.result.now c.send.new.self (omega (arith, c.requires)) c.index_mut-session.ensures.value same)
    c.send.ensures.err
