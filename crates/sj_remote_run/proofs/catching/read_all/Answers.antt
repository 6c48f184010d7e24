use Rattle.std.proofs.Common.{[], ◌∷◌, ◌++◌, refl, ap, ◌∙◌}
use Rattle.sj_base.proofs.PieceLemmas.{put_behind-nil}
use Rattle.sj_remote.specs.Conn.{sink_of}
use Rattle.sj_remote.specs.Streams.{keys_of, seen_of}
use Rattle.sj_streams.specs.Words.{words_at}
use Rattle.sj_remote_run.specs.Asked.{IsCause, IsOfStreams}
use Rattle.sj_remote_run.proofs.CaughtLemmas.{reads_more}
use Rattle.sj_remote_run.proofs.CauseLemmas.{cause_later, err_as, streams_then}
use Rattle.sj_remote_run.proofs.TalkedLemmas.{talks_both, talks_none}
use Rattle.sj_remote_run.proofs.catching.read_all.Goals as goal

pub loop-init : goal.loop-init
loop-init g c = record {
  keys = refl;
  count = λ zero. zero;
  sent = ([], put_behind-nil (g.K.Sink.written (sink_of c.args.conn.now)));
  talked = talks_none g.S.Source.left g.S.Source.faults g.K.Sink.faults c.args.conn.now;
}

pub loop-preserved : goal.loop-preserved
loop-preserved g c =
    let written = g.K.Sink.written in
    let s = c.loop.invariant.sent in
    let talked = talks_both g.S.Source.left g.S.Source.faults g.K.Sink.faults c.args.conn.now c.loop.conn c.read_once.new.conn c.loop.invariant.talked c.in_ok-read_once.ensures.talked in
    record {
      keys = c.in_ok-read_once.ensures.keys ∙ c.loop.invariant.keys;
      count = λ zero. c.in_ok-read_once.ensures.count (c.loop.invariant.count zero);
      sent = (
        s.0 ++ seen_of c.loop.streams ∷ [],
        reads_more (words_at (keys_of c.args.streams.now)) (words_at (keys_of c.loop.streams)) s.0 (seen_of c.loop.streams)
            (written (sink_of c.args.conn.now)) (written (sink_of c.loop.conn)) (written (sink_of c.read_once.new.conn)) (ap words_at c.loop.invariant.keys) s.1 c.in_ok-read_once.ensures.sent,
      );
      talked = talked;
    }

pub returns-then-not-branch-clause-sent : goal.returns-then-not-branch-clause-sent
returns-then-not-branch-clause-sent g c =
    let written = g.K.Sink.written in
    let s = c.loop.invariant.sent in (
      s.0 ++ seen_of c.loop.streams ∷ [],
      reads_more (words_at (keys_of c.args.streams.now)) (words_at (keys_of c.loop.streams)) s.0 (seen_of c.loop.streams)
          (written (sink_of c.args.conn.now)) (written (sink_of c.loop.conn)) (written (sink_of c.read_once.new.conn)) (ap words_at c.loop.invariant.keys) s.1 c.in_ok-read_once.ensures.sent,
    )

pub returns-then-not-branch-clause-talked : goal.returns-then-not-branch-clause-talked
returns-then-not-branch-clause-talked g c =
    talks_both g.S.Source.left g.S.Source.faults g.K.Sink.faults c.args.conn.now c.loop.conn c.read_once.new.conn c.loop.invariant.talked c.in_ok-read_once.ensures.talked

pub returns-in_err-read_once-clause-refused : goal.returns-in_err-read_once-clause-refused
returns-in_err-read_once-clause-refused g c =
    let left = g.S.Source.left in
    let faults = g.S.Source.faults in
    let has_ended = g.S.Source.has_ended in
    let unwritten = g.K.Sink.faults in
    let keys = words_at (keys_of c.args.streams.now) in
    let here = words_at (keys_of c.loop.streams) in
    let a = c.args.conn.now in
    let b = c.loop.conn in
    let t = c.loop.invariant.talked in
    let e = c.in_err-read_once.field-0.0 in
    err_as _ e (IsCause left faults has_ended unwritten (IsOfStreams keys c.args.party) a c.read_once.new.conn) c.from_residual.ensures.1
    (cause_later left faults has_ended unwritten (IsOfStreams here c.args.party) (IsOfStreams keys c.args.party) t.0 a b c.read_once.new.conn t.1
    (streams_then t.0 here keys c.args.party c.args.party (ap words_at c.loop.invariant.keys) refl) e c.in_err-read_once.ensures.refused)
