use Rattle.sj_streams.specs.Words.{tokens_at}
use Rattle.sj_remote_run.proofs.TalkedLemmas.{talked_one}
use Rattle.sj_remote_run.proofs.sharing.reply.Goals as goal

pub returns-in-Ok-clause-talked : goal.returns-in-Ok-clause-talked
returns-in-Ok-clause-talked g c =
    talked_one g.S.Source.left g.S.Source.faults g.K.Sink.faults c.args.conn.now c.reply.new.self (tokens_at c.in-Ok.tokens.items)
    c.in-Ok.ensures.replied c.in-Ok.ensures.whole c.in-Ok.ensures.later c.in-Ok.ensures.sink
