use Rattle.sj_streams.specs.Words.{tokens_at}
use Rattle.sj_remote_run.proofs.TalkedLemmas.{talked_none, talked_one, talked_sent}
use Rattle.sj_remote_run.proofs.sharing.ask.Goals as goal

pub returns-in-Ok-clause-talked : goal.returns-in-Ok-clause-talked
returns-in-Ok-clause-talked g c =
    let left = g.S.Source.left in
    let faults = g.S.Source.faults in
    let unwritten = g.K.Sink.faults in
    talked_sent left faults unwritten c.args.conn.now c.send.new.self c.reply.new.self
    (talked_none left faults unwritten c.args.conn.now c.send.new.self c.send.ensures.source c.send.ensures.heard c.send.ensures.later)
    (talked_one left faults unwritten c.send.new.self c.reply.new.self (tokens_at c.in-Ok.tokens.items)
    c.in-Ok.ensures.replied c.in-Ok.ensures.whole c.in-Ok.ensures.later c.in-Ok.ensures.sink)
