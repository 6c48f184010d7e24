use Rattle.std.proofs.Common.{List, map, refl, sym, ap, subst}
use Rattle.sj_node.specs.Reading.{party_of}
use Rattle.sj_remote.specs.Streams.{keys_of, seen_of}
use Rattle.sj_streams.specs.Views.{came_view}
use Rattle.sj_streams.specs.Words.{words_at}
use Rattle.sj_streams.specs.declared.replies.Came.{Came}
use Rattle.sj_remote_run.specs.Asked.{IsCause, IsOfStreams, IsUntaken}
use Rattle.sj_remote_run.specs.Causes.{talk_means}
use Rattle.sj_remote_run.specs.Refused.{ToAdd, ToRead}
use Rattle.sj_remote_run.specs.Turns.{node_in}
use Rattle.sj_remote_run.proofs.CauseLemmas.{err_as, inside_cause, unanswered_cause, untaken_cause, unwritten_cause}
use Rattle.sj_remote_run.proofs.RefusedLemmas.{not_read}
use Rattle.sj_remote_run.proofs.TalkedLemmas.{talked_here, talked_none, talked_one, talks_both}
use Rattle.sj_remote_run.proofs.turns.exchange.Goals as goal

pub returns-in_err-put_batch-clause-refused : goal.returns-in_err-put_batch-clause-refused
returns-in_err-put_batch-clause-refused g c =
    let next = IsOfStreams (words_at (keys_of c.args.streams.now)) (party_of (node_in c.args.player.now)) in
    let e = c.in_err-put_batch.field-0.0 in
    err_as _ e (IsCause g.S.Source.left g.S.Source.faults g.S.Source.has_ended g.K.Sink.faults next c.args.conn.now c.args.conn.now) c.from_residual.ensures.1
    (inside_cause g.S.Source.left g.S.Source.faults g.S.Source.has_ended g.K.Sink.faults next c.args.conn.now c.args.conn.now e c.in_err-put_batch.ensures.refused)

pub returns-in_err-send-clause-refused : goal.returns-in_err-send-clause-refused
returns-in_err-send-clause-refused g c =
    let left = g.S.Source.left in
    let faults = g.S.Source.faults in
    let has_ended = g.S.Source.has_ended in
    let unwritten = g.K.Sink.faults in
    let next = IsOfStreams (words_at (keys_of c.args.streams.now)) (party_of (node_in c.args.player.now)) in
    let a = c.args.conn.now in
    let e = c.in_err-send.field-0.0 in
    err_as _ e (IsCause left faults has_ended unwritten next a c.send.new.conn) c.from_residual-in_err-send.ensures.1
    (unwritten_cause left faults has_ended unwritten next 0 a a c.send.new.conn (talked_here left faults unwritten a) ToAdd tt e c.in_err-send.ensures.lost c.in_err-send.ensures.rose)

pub returns-in_err-added-clause-refused : goal.returns-in_err-added-clause-refused
returns-in_err-added-clause-refused g c =
    let left = g.S.Source.left in
    let faults = g.S.Source.faults in
    let has_ended = g.S.Source.has_ended in
    let unwritten = g.K.Sink.faults in
    let next = IsOfStreams (words_at (keys_of c.args.streams.now)) (party_of (node_in c.args.player.now)) in
    let a = c.args.conn.now in
    let b = c.send.new.conn in
    let s = c.in_ok-send.ensures in
    let e = c.in_err-added.field-0.0 in
    err_as _ e (IsCause left faults has_ended unwritten next a c.added.new.conn) c.from_residual-in_err-added.ensures.1
    (unanswered_cause left faults has_ended unwritten next 0 a b c.added.new.conn (talked_none left faults unwritten a b s.source s.heard s.later) ToAdd tt e c.in_err-added.ensures.refused)

pub returns-in-Err-clause-refused : goal.returns-in-Err-clause-refused
returns-in-Err-clause-refused g c =
    let left = g.S.Source.left in
    let faults = g.S.Source.faults in
    let has_ended = g.S.Source.has_ended in
    let unwritten = g.K.Sink.faults in
    let party = party_of (node_in c.args.player.now) in
    let next = IsOfStreams (words_at (keys_of c.args.streams.now)) party in
    let keys = words_at (keys_of c.put_batch.new.streams) in
    let seen = seen_of c.put_batch.new.streams in
    let a = c.args.conn.now in
    let b = c.send.new.conn in
    let d = c.added.new.conn in
    let s = c.in_ok-send.ensures in
    let t = talks_both left faults unwritten a b d (0, talked_none left faults unwritten a b s.source s.heard s.later) c.in_ok-added.ensures.talked in
    subst (IsCause left faults has_ended unwritten next a c.came.new.self) (sym c.talk_means.ensures)
    (unanswered_cause left faults has_ended unwritten next t.0 a d c.came.new.self t.1 (ToRead keys seen party) (ap words_at c.in_ok-put_batch.ensures.keys, refl) (talk_means c.in-Err.e)
    (not_read left faults has_ended unwritten d c.came.new.self keys seen party c.in-Err.e c.in-Err.ensures.refused))

pub returns-in_err-take_all-clause-refused : goal.returns-in_err-take_all-clause-refused
returns-in_err-take_all-clause-refused g c =
    let left = g.S.Source.left in
    let faults = g.S.Source.faults in
    let has_ended = g.S.Source.has_ended in
    let unwritten = g.K.Sink.faults in
    let party = party_of (node_in c.put_batch.new.player) in
    let next = IsOfStreams (words_at (keys_of c.args.streams.now)) (party_of (node_in c.args.player.now)) in
    let keys = words_at (keys_of c.put_batch.new.streams) in
    let seen = seen_of c.put_batch.new.streams in
    let a = c.args.conn.now in
    let b = c.send.new.conn in
    let d = c.added.new.conn in
    let s = c.in_ok-send.ensures in
    let t = talks_both left faults unwritten a b d (0, talked_none left faults unwritten a b s.source s.heard s.later) c.in_ok-added.ensures.talked in
    let e = c.in_err-take_all.field-0.0 in
    err_as _ e (IsCause left faults has_ended unwritten next a c.came.new.self) c.from_residual-in_err-take_all.ensures.1
    (untaken_cause left faults has_ended unwritten next t.0 a d c.came.new.self t.1 keys seen party c.in-Ok.all.items
    (ap words_at c.in_ok-put_batch.ensures.keys, ap party_of c.in_ok-put_batch.ensures.node) c.in-Ok.ensures.ok e
    (subst (λ (l : List Came). IsUntaken party (map came_view l) e) c.deref-2.ensures.value c.in_err-take_all.ensures.refused))

pub returns-clause-talked : goal.returns-clause-talked
returns-clause-talked g c =
    let left = g.S.Source.left in
    let faults = g.S.Source.faults in
    let unwritten = g.K.Sink.faults in
    let a = c.args.conn.now in
    let b = c.send.new.conn in
    let d = c.added.new.conn in
    let s = c.in_ok-send.ensures in
    let t = talks_both left faults unwritten a b d (0, talked_none left faults unwritten a b s.source s.heard s.later) c.in_ok-added.ensures.talked in
    let r = c.in-Ok.ensures.ok in
    talks_both left faults unwritten a d c.came.new.self t (1, talked_one left faults unwritten d c.came.new.self r.tokens r.replied r.whole c.in-Ok.ensures.later c.in-Ok.ensures.sink)
