use Rattle.sj_node.specs.Reading.{party_of}
use Rattle.sj_remote.specs.Streams.{keys_of}
use Rattle.sj_streams.specs.Words.{words_at}
use Rattle.sj_remote_run.specs.Asked.{IsCause, IsOfStreams}
use Rattle.sj_remote_run.specs.Refused.{ToAdd}
use Rattle.sj_remote_run.specs.Turns.{node_in}
use Rattle.sj_remote_run.proofs.CauseLemmas.{err_as, inside_cause, unanswered_cause, unwritten_cause}
use Rattle.sj_remote_run.proofs.TalkedLemmas.{talked_here, talked_none, talks_both}
use Rattle.sj_remote_run.proofs.turns.add.Goals as goal

pub returns-in_err-put_batch-clause-refused : goal.returns-in_err-put_batch-clause-refused
returns-in_err-put_batch-clause-refused g c =
    let next = IsOfStreams (words_at (keys_of c.args.streams.now)) (party_of (node_in c.args.player.now)) in
    let e = c.in_err-put_batch.field-0.0 in
    err_as _ e (IsCause g.S.Source.left g.S.Source.faults g.S.Source.has_ended g.K.Sink.faults next c.args.conn.now c.args.conn.now) c.from_residual.ensures.1
    (inside_cause g.S.Source.left g.S.Source.faults g.S.Source.has_ended g.K.Sink.faults next c.args.conn.now c.args.conn.now e c.in_err-put_batch.ensures.refused)

pub returns-in_err-send-clause-refused : goal.returns-in_err-send-clause-refused
returns-in_err-send-clause-refused g c =
    let left = g.S.Source.left in
    let faults = g.S.Source.faults in
    let has_ended = g.S.Source.has_ended in
    let unwritten = g.K.Sink.faults in
    let next = IsOfStreams (words_at (keys_of c.args.streams.now)) (party_of (node_in c.args.player.now)) in
    let a = c.args.conn.now in
    let e = c.in_err-send.field-0.0 in
    err_as _ e (IsCause left faults has_ended unwritten next a c.send.new.conn) c.from_residual-in_err-send.ensures.1
    (unwritten_cause left faults has_ended unwritten next 0 a a c.send.new.conn (talked_here left faults unwritten a) ToAdd tt e c.in_err-send.ensures.lost c.in_err-send.ensures.rose)

pub returns-in_err-added-clause-refused : goal.returns-in_err-added-clause-refused
returns-in_err-added-clause-refused g c =
    let left = g.S.Source.left in
    let faults = g.S.Source.faults in
    let has_ended = g.S.Source.has_ended in
    let unwritten = g.K.Sink.faults in
    let next = IsOfStreams (words_at (keys_of c.args.streams.now)) (party_of (node_in c.args.player.now)) in
    let a = c.args.conn.now in
    let b = c.send.new.conn in
    let s = c.in_ok-send.ensures in
    let e = c.in_err-added.field-0.0 in
    err_as _ e (IsCause left faults has_ended unwritten next a c.added.new.conn) c.from_residual-in_err-added.ensures.1
    (unanswered_cause left faults has_ended unwritten next 0 a b c.added.new.conn (talked_none left faults unwritten a b s.source s.heard s.later) ToAdd tt e c.in_err-added.ensures.refused)

pub returns-clause-talked : goal.returns-clause-talked
returns-clause-talked g c =
    let left = g.S.Source.left in
    let faults = g.S.Source.faults in
    let unwritten = g.K.Sink.faults in
    let a = c.args.conn.now in
    let b = c.send.new.conn in
    let s = c.in_ok-send.ensures in
    talks_both left faults unwritten a b c.added.new.conn (0, talked_none left faults unwritten a b s.source s.heard s.later) c.in_ok-added.ensures.talked
