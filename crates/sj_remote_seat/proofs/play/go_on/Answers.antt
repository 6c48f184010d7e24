use Rattle.std.proofs.Common.{◌≡◌, ◌+◌, ◌∙◌, Some, ap, get_or, refl, []}
use Rattle.sj_base.specs.Stream.{put_behind}
use Rattle.sj_lang.specs.FileView.{file_of}
use Rattle.sj_node.specs.Node.{log_of}
use Rattle.sj_node.specs.Reading.{party_of}
use Rattle.sj_remote.specs.Conn.{sink_of}
use Rattle.sj_remote.specs.Streams.{keys_of, seen_of}
use Rattle.sj_remote_run.specs.Turns.{added_count}
use Rattle.sj_seat.specs.Views.{node_of}
use Rattle.sj_streams.specs.Words.{words_at}
use Rattle.sj_remote_seat.specs.Steps.{stays}
use Rattle.sj_remote_seat.proofs.GoingLemmas.{going_none, turn_adds, turn_asks, turn_clear, turn_goes}
use Rattle.sj_remote_seat.proofs.HandedLemmas.{batch_same, number_same, turn_same}
use Rattle.sj_remote_seat.proofs.StepsLemmas.{steps_then}
use Rattle.sj_remote_seat.proofs.play.go_on.Goals as goal

pub loop-init : goal.loop-init
loop-init g c = record {
  going = going_none (file_of c.args.file.now) c.args.how.now.run.now (words_at (keys_of c.args.streams.now)) (get_or (seen_of c.args.streams.now) (party_of (node_of c.args.seat)) 0)
      c.args.seat (g.K.Sink.written (sink_of c.args.conn.now)) c.requires.empty;
  clear = c.requires.clear;
  keys = refl;
  steps = stays;
}

pub returns-then-eq-clause-gone : goal.returns-then-eq-clause-gone
returns-then-eq-clause-gone g c =
    let written = g.K.Sink.written in
    let file = file_of c.args.file.now in
    let keys = words_at (keys_of c.args.streams.now) in
    let old = c.args.seat in
    let mid = c.loop.going in
    let next = c.in_ok-next.next in
    let seen = seen_of c.loop.streams in
    let w = c.loop.invariant.going in
    let t = c.in_ok-next.ensures.turns in
    let party : party_of (node_of next) ≡ party_of (node_of old) = t.same.party ∙ w.same.party in
    let last = get_or seen (party_of (node_of old)) 0 in
    let frames = c.in_ok-hand_in_last.ensures in
    let same = batch_same (words_at (keys_of c.loop.streams)) keys seen file file (party_of (node_of next)) (party_of (node_of old)) (log_of (node_of next)) (log_of (node_of next)) frames.0 frames.0
    (ap words_at c.loop.invariant.keys) refl party refl refl in
    record {
      calls = w.calls (t.calls []);
      new = next;
      end = last + added_count (log_of (node_of next));
      goes_on = turn_adds file c.args.how.now.run.now keys (get_or (seen_of c.args.streams.now) (party_of (node_of old)) 0) last old mid next (written (sink_of c.args.conn.now)) (written (sink_of c.loop.conn))
          (written (sink_of c.hand_in_last.new.conn)) c.requires.parties w t frames.0 c.loop.invariant.clear frames.1 seen refl (frames.2 ∙ ap (put_behind (written (sink_of c.loop.conn))) same) [];
      stands = c.in_ok-next.ensures.stands;
    }

pub returns-then-not-on-clause-gone : goal.returns-then-not-on-clause-gone
returns-then-not-on-clause-gone g c =
    let written = g.K.Sink.written in
    let file = file_of c.args.file.now in
    let keys = words_at (keys_of c.args.streams.now) in
    let old = c.args.seat in
    let mid = c.loop.going in
    let next = c.in_ok-next.next in
    let seen = seen_of c.loop.streams in
    let w = c.loop.invariant.going in
    let t = c.in_ok-next.ensures.turns in
    let party : party_of (node_of next) ≡ party_of (node_of old) = t.same.party ∙ w.same.party in
    let last = get_or seen (party_of (node_of old)) 0 in
    let frames = c.in_ok-seat.ensures.sent in
    let wait = c.wait_for-wait.result in
    let same = turn_same (words_at (keys_of c.loop.streams)) keys seen file file (party_of (node_of next)) (party_of (node_of old)) (log_of (node_of next)) (log_of (node_of next)) frames.0 frames.0 (Some wait)
    (ap words_at c.loop.invariant.keys) refl party refl refl in
    record {
      calls = w.calls (t.calls []);
      new = next;
      end = last + added_count (log_of (node_of next));
      goes_on = turn_asks file c.args.how.now.run.now keys (get_or (seen_of c.args.streams.now) (party_of (node_of old)) 0) last old mid next (written (sink_of c.args.conn.now)) (written (sink_of c.loop.conn))
          (written (sink_of c.hand_in.new.conn)) c.requires.parties w t frames.0 c.loop.invariant.clear frames.1 seen refl wait (frames.2 ∙ ap (put_behind (written (sink_of c.loop.conn))) same) [];
      stands = c.in_ok-next.ensures.stands;
    }

pub loop-preserved : goal.loop-preserved
loop-preserved g c =
    let written = g.K.Sink.written in
    let file = file_of c.args.file.now in
    let keys = words_at (keys_of c.args.streams.now) in
    let old = c.args.seat in
    let mid = c.loop.going in
    let next = c.in_ok-next.next in
    let seen = seen_of c.loop.streams in
    let w = c.loop.invariant.going in
    let t = c.in_ok-next.ensures.turns in
    let party : party_of (node_of next) ≡ party_of (node_of old) = t.same.party ∙ w.same.party in
    let last = get_or seen (party_of (node_of old)) 0 in
    let frames = c.in_ok-seat.ensures.sent in
    let wait = c.wait_for-wait.result in
    let same = turn_same (words_at (keys_of c.loop.streams)) keys seen file file (party_of (node_of next)) (party_of (node_of old)) (log_of (node_of next)) (log_of (node_of next)) frames.0 frames.0 (Some wait)
    (ap words_at c.loop.invariant.keys) refl party refl refl in
    record {
      going = turn_goes file c.args.how.now.run.now keys (get_or (seen_of c.args.streams.now) (party_of (node_of old)) 0) last old mid next (written (sink_of c.args.conn.now)) (written (sink_of c.loop.conn))
          (written (sink_of c.hand_in.new.conn)) c.requires.parties w t frames.0 c.loop.invariant.clear frames.1 seen refl wait (get_or (seen_of c.hand_in.new.streams) (party_of (node_of old)) 0) c.in_ok-seat.seat c.in_ok-seat.ensures.goes
          (number_same (seen_of c.hand_in.new.streams) seen (party_of (node_of next)) (party_of (node_of old)) (log_of (node_of next)) (log_of (node_of next)) party refl c.in_ok-seat.ensures.number)
          (frames.2 ∙ ap (put_behind (written (sink_of c.loop.conn))) same);
      clear = turn_clear file c.args.how.now.run.now keys (get_or (seen_of c.args.streams.now) (party_of (node_of old)) 0) last old mid next (written (sink_of c.args.conn.now)) (written (sink_of c.loop.conn))
          (written (sink_of c.hand_in.new.conn)) c.requires.parties w t frames.0 c.loop.invariant.clear frames.1 c.in_ok-seat.seat c.in_ok-seat.ensures.goes;
      keys = c.in_ok-seat.ensures.keys ∙ c.loop.invariant.keys;
      steps = steps_then g.C.Code.step c.loop.invariant.steps c.in_ok-next.ensures.steps;
    }
