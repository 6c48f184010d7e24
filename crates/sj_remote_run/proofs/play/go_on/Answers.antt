use Rattle.std.proofs.Common.{◌≡◌, ◌+◌, List, Some, get_or, map, refl, ap, subst, sym, ◌∙◌}
use Rattle.sj_base.specs.Stream.{put_behind}
use Rattle.sj_check.specs.Held.{file_in}
use Rattle.sj_end.specs.declared.note.Entry.{Entry}
use Rattle.sj_engine.specs.Lanes.{pushed_on}
use Rattle.sj_lang.specs.FileView.{file_of}
use Rattle.sj_node.specs.Reading.{party_of}
use Rattle.sj_node.specs.declared.node.Node.{Node}
use Rattle.sj_remote.specs.Conn.{sink_of}
use Rattle.sj_remote.specs.Streams.{keys_of, seen_of}
use Rattle.sj_streams.specs.Words.{words_at}
use Rattle.sj_remote_run.specs.Asked.{IsOfStreams, IsPlayCause}
use Rattle.sj_remote_run.specs.Posts.{HandsOver, HasNone}
use Rattle.sj_remote_run.specs.Sent.{text_sent}
use Rattle.sj_remote_run.specs.Stuck.{StuckOn}
use Rattle.sj_remote_run.specs.Turns.{added_count, node_in, outs_in}
use Rattle.sj_remote_run.proofs.GoesLemmas.{goes_ended, goes_none, goes_party}
use Rattle.sj_remote_run.proofs.CauseLemmas.{cause_later, cause_play, err_as, streams_then}
use Rattle.sj_remote_run.proofs.StuckLemmas.{stuck_cause}
use Rattle.sj_remote_run.proofs.TalkedLemmas.{talks_both, talks_none}
use Rattle.sj_remote_run.proofs.TurnLemmas.{going_none, going_same, same_batch, same_number, same_turn, turn_adds, turn_asks}
use Rattle.sj_remote_run.proofs.play.go_on.Goals as goal

pub loop-init : goal.loop-init
loop-init g c =
    let file = file_of (file_in c.args.accepted.now) in
    let old = node_in c.args.player in
    record {
      going = going_none (text_sent file c.args.how.now.run.now (words_at (keys_of c.args.streams.now)) (party_of old)) (get_or (seen_of c.args.streams.now) (party_of old) 0) old
          (g.K.Sink.written (sink_of c.args.conn.now)) refl c.requires.empty;
      none = c.requires.none;
      keys = refl;
      talked = talks_none g.S.Source.left g.S.Source.faults g.K.Sink.faults c.args.conn.now;
    }

pub returns-then-eq-clause-goes : goal.returns-then-eq-clause-goes
returns-then-eq-clause-goes g c =
    let written = g.K.Sink.written in
    let file = file_of (file_in c.args.accepted.now) in
    let keys = words_at (keys_of c.args.streams.now) in
    let old = node_in c.args.player in
    let next = c.in_ok-next.next in
    let noted = c.in_ok-next.noted.items in
    let seen = seen_of c.loop.streams in
    let goes = c.in_ok-next.ensures.goes in
    let going = c.loop.invariant.going in
    let party : party_of (node_in next) ≡ party_of old = goes_party c.loop.player next c.in_ok-next.outcome noted goes ∙ going.party in
    let same = same_batch (words_at (keys_of c.loop.streams)) keys seen (file_of c.file-file.result.now) file (party_of (node_in next)) (party_of old) c.deref.result.now noted (map pushed_on (outs_in next))
    (ap words_at c.loop.invariant.keys) (ap file_of c.file-file.ensures.value) party c.deref.ensures.value in
    let t = turn_adds file c.args.how.now.run.now keys old (get_or (seen_of c.args.streams.now) (party_of old) 0) (written (sink_of c.args.conn.now)) c.loop.player next c.in_ok-next.outcome noted goes seen
    (written (sink_of c.loop.conn)) (written (sink_of c.add.new.conn)) going c.loop.invariant.none (c.in_ok-add.ensures.sent ∙ ap (put_behind (written (sink_of c.loop.conn))) same) in
    record {
      commands = t.commands;
      written = t.written;
      end = get_or seen (party_of old) 0 + added_count noted;
      node = node_in next;
      sent = t.sent;
      ended = goes_ended c.loop.player next c.in_ok-next.outcome noted goes;
    }

pub returns-then-not-branch-clause-goes : goal.returns-then-not-branch-clause-goes
returns-then-not-branch-clause-goes g c =
    let written = g.K.Sink.written in
    let file = file_of (file_in c.args.accepted.now) in
    let keys = words_at (keys_of c.args.streams.now) in
    let old = node_in c.args.player in
    let next = c.in_ok-next.next in
    let noted = c.in_ok-next.noted.items in
    let seen = seen_of c.loop.streams in
    let goes = c.in_ok-next.ensures.goes in
    let going = c.loop.invariant.going in
    let party : party_of (node_in next) ≡ party_of old = goes_party c.loop.player next c.in_ok-next.outcome noted goes ∙ going.party in
    let here = ap words_at c.loop.invariant.keys in
    let same = same_turn (words_at (keys_of c.loop.streams)) keys seen (file_of c.file-file.result.now) file (party_of (node_in next)) (party_of old) c.deref-in-loop.result.now noted (map pushed_on (outs_in next)) (Some c.max-wait.result)
    here (ap file_of c.file-file.ensures.value) party c.deref-in-loop.ensures.value in
    let t = turn_asks file c.args.how.now.run.now keys old (get_or (seen_of c.args.streams.now) (party_of old) 0) (written (sink_of c.args.conn.now)) c.loop.player next c.in_ok-next.outcome noted goes seen
    (written (sink_of c.loop.conn)) (written (sink_of c.exchange.new.conn)) going c.loop.invariant.none c.max-wait.result (c.in_ok-exchange.ensures.sent ∙ ap (put_behind (written (sink_of c.loop.conn))) same) in
    record {
      commands = t.commands;
      written = t.written;
      end = get_or seen (party_of old) 0 + added_count noted;
      node = node_in next;
      sent = t.sent;
      ended = goes_ended c.loop.player next c.in_ok-next.outcome noted goes;
    }

pub loop-preserved : goal.loop-preserved
loop-preserved g c =
    let written = g.K.Sink.written in
    let file = file_of (file_in c.args.accepted.now) in
    let keys = words_at (keys_of c.args.streams.now) in
    let old = node_in c.args.player in
    let next = c.in_ok-next.next in
    let noted = c.in_ok-next.noted.items in
    let seen = seen_of c.loop.streams in
    let goes = c.in_ok-next.ensures.goes in
    let going = c.loop.invariant.going in
    let party : party_of (node_in next) ≡ party_of old = goes_party c.loop.player next c.in_ok-next.outcome noted goes ∙ going.party in
    let here = ap words_at c.loop.invariant.keys in
    let same = same_turn (words_at (keys_of c.loop.streams)) keys seen (file_of c.file-file.result.now) file (party_of (node_in next)) (party_of old) c.deref-in-loop.result.now noted (map pushed_on (outs_in next)) (Some c.max-wait.result)
    here (ap file_of c.file-file.ensures.value) party c.deref-in-loop.ensures.value in
    let t = turn_asks file c.args.how.now.run.now keys old (get_or (seen_of c.args.streams.now) (party_of old) 0) (written (sink_of c.args.conn.now)) c.loop.player next c.in_ok-next.outcome noted goes seen
    (written (sink_of c.loop.conn)) (written (sink_of c.exchange.new.conn)) going c.loop.invariant.none c.max-wait.result (c.in_ok-exchange.ensures.sent ∙ ap (put_behind (written (sink_of c.loop.conn))) same) in
    record {
      going = going_same (text_sent file c.args.how.now.run.now keys (party_of old)) (get_or (seen_of c.args.streams.now) (party_of old) 0) (get_or seen (party_of old) 0 + added_count noted)
          (get_or (seen_of c.exchange.new.streams) (party_of old) 0) old (node_in next) (node_in c.exchange.new.player) (written (sink_of c.args.conn.now)) (written (sink_of c.exchange.new.conn))
          (same_number (seen_of c.exchange.new.streams) seen (party_of (node_in next)) (party_of old) c.deref-in-loop.result.now noted party c.deref-in-loop.ensures.value c.in_ok-exchange.ensures.number)
          c.in_ok-exchange.ensures.node t;
      none = subst (λ (n : Node). HasNone (outs_in c.exchange.new.player) n) (sym c.in_ok-exchange.ensures.node)
          (goes_none c.loop.player next c.in_ok-next.outcome noted goes going.empty c.loop.invariant.none (outs_in c.exchange.new.player)
          (subst (λ (es : List Entry). HandsOver es (outs_in next) (outs_in c.exchange.new.player)) c.deref-in-loop.ensures.value c.in_ok-exchange.ensures.lanes));
      keys = c.in_ok-exchange.ensures.keys ∙ c.loop.invariant.keys;
      talked = talks_both g.S.Source.left g.S.Source.faults g.K.Sink.faults c.args.conn.now c.loop.conn c.exchange.new.conn c.loop.invariant.talked c.in_ok-exchange.ensures.talked;
    }

pub returns-clause-goes : goal.returns-clause-goes
returns-clause-goes g c =
    let going = c.loop.invariant.going in
    record {
      commands = going.commands;
      written = going.written;
      end = get_or (seen_of c.loop.streams) (party_of (node_in c.args.player)) 0;
      node = node_in c.loop.player;
      sent = going.sent;
      ended = λ is. absurd cc;
    }

pub returns-in_err-next-clause-refused : goal.returns-in_err-next-clause-refused
returns-in_err-next-clause-refused g c =
    let left = g.S.Source.left in
    let faults = g.S.Source.faults in
    let has_ended = g.S.Source.has_ended in
    let unwritten = g.K.Sink.faults in
    let next = IsOfStreams (words_at (keys_of c.args.streams.now)) (party_of (node_in c.args.player)) in
    let stuck = StuckOn (get_or (seen_of c.args.streams.now) (party_of (node_in c.args.player)) 0) (node_in c.args.player) in
    let a = c.args.conn.now in
    let e = c.in_err-next.field-0.0 in
    let going = c.loop.invariant.going in
    err_as _ e (IsPlayCause left faults has_ended unwritten next stuck a c.loop.conn) c.from_residual.ensures.1
    (stuck_cause left faults has_ended unwritten next stuck c.loop.player a c.loop.conn e c.in_err-next.ensures.refused (λ stops. record {
      commands = going.commands;
      end = get_or (seen_of c.loop.streams) (party_of (node_in c.args.player)) 0;
      player = c.loop.player;
      sent = going.sent;
      play = going.play;
      party_stays = going.party;
      stuck = stops;
    }))

pub returns-in_err-add-clause-refused : goal.returns-in_err-add-clause-refused
returns-in_err-add-clause-refused g c =
    let left = g.S.Source.left in
    let faults = g.S.Source.faults in
    let has_ended = g.S.Source.has_ended in
    let unwritten = g.K.Sink.faults in
    let keys = words_at (keys_of c.args.streams.now) in
    let here = words_at (keys_of c.loop.streams) in
    let party = party_of (node_in c.args.player) in
    let next = c.in_ok-next.next in
    let same : party_of (node_in next) ≡ party = goes_party c.loop.player next c.in_ok-next.outcome c.in_ok-next.noted.items c.in_ok-next.ensures.goes ∙ c.loop.invariant.going.party in
    let stuck = StuckOn (get_or (seen_of c.args.streams.now) (party_of (node_in c.args.player)) 0) (node_in c.args.player) in
    let a = c.args.conn.now in
    let b = c.loop.conn in
    let t = c.loop.invariant.talked in
    let e = c.in_err-add.field-0.0 in
    err_as _ e (IsPlayCause left faults has_ended unwritten (IsOfStreams keys party) stuck a c.add.new.conn) c.from_residual-in_err-add.ensures.1
    (cause_play left faults has_ended unwritten (IsOfStreams keys party) stuck a c.add.new.conn e (cause_later left faults has_ended unwritten (IsOfStreams here (party_of (node_in next))) (IsOfStreams keys party) t.0 a b c.add.new.conn t.1
    (streams_then t.0 here keys (party_of (node_in next)) party (ap words_at c.loop.invariant.keys) same) e c.in_err-add.ensures.refused))

pub returns-in_err-exchange-clause-refused : goal.returns-in_err-exchange-clause-refused
returns-in_err-exchange-clause-refused g c =
    let left = g.S.Source.left in
    let faults = g.S.Source.faults in
    let has_ended = g.S.Source.has_ended in
    let unwritten = g.K.Sink.faults in
    let keys = words_at (keys_of c.args.streams.now) in
    let here = words_at (keys_of c.loop.streams) in
    let party = party_of (node_in c.args.player) in
    let next = c.in_ok-next.next in
    let same : party_of (node_in next) ≡ party = goes_party c.loop.player next c.in_ok-next.outcome c.in_ok-next.noted.items c.in_ok-next.ensures.goes ∙ c.loop.invariant.going.party in
    let stuck = StuckOn (get_or (seen_of c.args.streams.now) (party_of (node_in c.args.player)) 0) (node_in c.args.player) in
    let a = c.args.conn.now in
    let b = c.loop.conn in
    let t = c.loop.invariant.talked in
    let e = c.in_err-exchange.field-0.0 in
    err_as _ e (IsPlayCause left faults has_ended unwritten (IsOfStreams keys party) stuck a c.exchange.new.conn) c.from_residual-in_err-exchange.ensures.1
    (cause_play left faults has_ended unwritten (IsOfStreams keys party) stuck a c.exchange.new.conn e (cause_later left faults has_ended unwritten (IsOfStreams here (party_of (node_in next))) (IsOfStreams keys party) t.0 a b c.exchange.new.conn t.1
    (streams_then t.0 here keys (party_of (node_in next)) party (ap words_at c.loop.invariant.keys) same) e c.in_err-exchange.ensures.refused))
