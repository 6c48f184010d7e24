use Rattle.std.proofs.Common.{refl, sym, subst}
use Rattle.sj_remote.specs.Streams.{keys_of, seen_of}
use Rattle.sj_streams.specs.Words.{words_at}
use Rattle.sj_remote_run.specs.Asked.{IsCause, IsOfStreams}
use Rattle.sj_remote_run.specs.Causes.{talk_means}
use Rattle.sj_remote_run.specs.Refused.{ToRead}
use Rattle.sj_remote_run.proofs.CauseLemmas.{err_as, inside_cause, unanswered_cause, unwritten_cause}
use Rattle.sj_remote_run.proofs.RefusedLemmas.{not_read}
use Rattle.sj_remote_run.proofs.TalkedLemmas.{talked_here, talked_none, talked_one, talks_both}
use Rattle.sj_remote_run.proofs.catching.read_once.Goals as goal

pub returns-in_err-name-clause-refused : goal.returns-in_err-name-clause-refused
returns-in_err-name-clause-refused g c =
    let left = g.S.Source.left in
    let faults = g.S.Source.faults in
    let has_ended = g.S.Source.has_ended in
    let unwritten = g.K.Sink.faults in
    let next = IsOfStreams (words_at (keys_of c.args.streams.now)) c.args.party in
    let a = c.args.conn.now in
    let e = c.in_err-name.field-0.0 in
    err_as _ e (IsCause left faults has_ended unwritten next a a) c.from_residual.ensures.1 (inside_cause left faults has_ended unwritten next a a e c.in_err-name.ensures.refused)

pub returns-in_err-send-clause-refused : goal.returns-in_err-send-clause-refused
returns-in_err-send-clause-refused g c =
    let left = g.S.Source.left in
    let faults = g.S.Source.faults in
    let has_ended = g.S.Source.has_ended in
    let unwritten = g.K.Sink.faults in
    let keys = words_at (keys_of c.args.streams.now) in
    let next = IsOfStreams keys c.args.party in
    let a = c.args.conn.now in
    let e = c.in_err-send.field-0.0 in
    err_as _ e (IsCause left faults has_ended unwritten next a c.send.new.conn) c.from_residual-in_err-send.ensures.1
    (unwritten_cause left faults has_ended unwritten next 0 a a c.send.new.conn (talked_here left faults unwritten a) (ToRead keys (seen_of c.args.streams.now) c.args.party) (refl, refl) e
    c.in_err-send.ensures.lost c.in_err-send.ensures.rose)

pub returns-in-Err-clause-refused : goal.returns-in-Err-clause-refused
returns-in-Err-clause-refused g c =
    let left = g.S.Source.left in
    let faults = g.S.Source.faults in
    let has_ended = g.S.Source.has_ended in
    let unwritten = g.K.Sink.faults in
    let keys = words_at (keys_of c.args.streams.now) in
    let seen = seen_of c.args.streams.now in
    let next = IsOfStreams keys c.args.party in
    let a = c.args.conn.now in
    let b = c.send.new.conn in
    let s = c.in_ok-send.ensures in
    subst (IsCause left faults has_ended unwritten next a c.came.new.self) (sym c.talk_means.ensures)
    (unanswered_cause left faults has_ended unwritten next 0 a b c.came.new.self (talked_none left faults unwritten a b s.source s.heard s.later) (ToRead keys seen c.args.party) (refl, refl) (talk_means c.in-Err.e)
    (not_read left faults has_ended unwritten b c.came.new.self keys seen c.args.party c.in-Err.e c.in-Err.ensures.refused))

pub returns-in_err-take_one-clause-refused : goal.returns-in_err-take_one-clause-refused
returns-in_err-take_one-clause-refused g c =
    let left = g.S.Source.left in
    let faults = g.S.Source.faults in
    let has_ended = g.S.Source.has_ended in
    let unwritten = g.K.Sink.faults in
    let next = IsOfStreams (words_at (keys_of c.args.streams.now)) c.args.party in
    let a = c.args.conn.now in
    let e = c.in_err-take_one.field-0.0 in
    err_as _ e (IsCause left faults has_ended unwritten next a c.came.new.self) c.from_residual-in_err-take_one.ensures.1
    (inside_cause left faults has_ended unwritten next a c.came.new.self e c.in_err-take_one.ensures.refused)

pub returns-clause-talked : goal.returns-clause-talked
returns-clause-talked g c =
    let left = g.S.Source.left in
    let faults = g.S.Source.faults in
    let unwritten = g.K.Sink.faults in
    let a = c.args.conn.now in
    let b = c.send.new.conn in
    let s = c.in_ok-send.ensures in
    let r = c.in-Ok.ensures.ok in
    talks_both left faults unwritten a b c.came.new.self (0, talked_none left faults unwritten a b s.source s.heard s.later)
    (1, talked_one left faults unwritten b c.came.new.self r.tokens r.replied r.whole c.in-Ok.ensures.later c.in-Ok.ensures.sink)
