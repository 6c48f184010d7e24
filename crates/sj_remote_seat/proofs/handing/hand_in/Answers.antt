use Rattle.std.proofs.Common.{◌≡◌, ◌∙◌, List, Some, ap, map, refl, subst}
use Rattle.sj_base.specs.Stream.{put_behind}
use Rattle.sj_end.specs.declared.note.Entry.{Entry}
use Rattle.sj_engine.specs.Lanes.{pushed_on}
use Rattle.sj_lang.specs.FileView.{file_of}
use Rattle.sj_node.specs.Node.{log_of}
use Rattle.sj_node.specs.Reading as nodes
use Rattle.sj_remote.specs.Conn.{sink_of}
use Rattle.sj_remote.specs.Streams.{keys_of, seen_of}
use Rattle.sj_remote_run.specs.Turns.{node_in, outs_in}
use Rattle.sj_seat.specs.Views.{node_of}
use Rattle.sj_streams.specs.Words.{words_at}
use Rattle.sj_work.specs.Views as works
use Rattle.sj_remote_seat.specs.Turns.{IsLeft, outs_of}
use Rattle.sj_remote_seat.proofs.ApartLemmas.{put_back}
use Rattle.sj_remote_seat.proofs.CaughtLemmas.{idle_like}
use Rattle.sj_remote_seat.proofs.HandedLemmas.{handed_out, has_out, left_by, number_same, turn_same}
use Rattle.sj_remote_seat.proofs.SatLemmas.{after_entry, after_out, resembles_same, resembles_then}
use Rattle.sj_remote_seat.proofs.handing.hand_in.Goals as goal

pub with_worker-requires-clause-same : goal.with_worker-requires-clause-same
with_worker-requires-clause-same g c =
    ap nodes.table_of (c.new-worker.ensures.node ∙ c.in_ok-came.ensures.node) ∙ c.push_all.ensures.node.table ∙ c.into_parts-lanes.ensures.node.table ∙ c.into_parts-worker.ensures.same

pub with_worker-requires-clause-idle : goal.with_worker-requires-clause-idle
with_worker-requires-clause-idle g c =
    let w = works.node_of c.into_parts-worker.result.0 in
    let m = c.into_parts-lanes.result.1 in
    let v = works.node_of c.new-worker.result in
    let k = c.push_all.new.node in
    let like = resembles_then w m v (after_entry w m c.into_parts-lanes.ensures.node)
    (resembles_then m k v (after_out m k c.push_all.ensures.node) (resembles_same k v (c.new-worker.ensures.node ∙ c.in_ok-came.ensures.node))) in
    idle_like w v like c.into_parts-worker.ensures.idle

pub returns-clause-sent : goal.returns-clause-sent
returns-clause-sent g c =
    let m = c.into_parts-lanes.result.1 in
    let from = ap works.node_of c.into_parts-worker.ensures.worker in
    let keys = words_at (keys_of c.args.streams.now) in
    let file = file_of c.args.file.now in
    let sent = map pushed_on c.push_all.new.lanes.outs.items in
    let party : nodes.party_of c.push_all.new.node ≡ nodes.party_of (node_of c.args.seat) = c.push_all.ensures.node.party ∙ c.into_parts-lanes.ensures.node.party ∙ ap nodes.party_of from in
    let noted : c.deref.result.now ≡ log_of (node_of c.args.seat) = c.deref.ensures.value ∙ c.into_parts-lanes.ensures.log ∙ ap log_of from in
    let frames = handed_out c.args.seat c.into_parts-lanes.result.0 c.into_parts-worker.result.0 m c.push_all.new.node c.push_all.new.lanes.outs.items c.into_parts-worker.ensures.worker c.into_parts-lanes.ensures.lanes
    c.into_parts-lanes.ensures.node c.push_all.ensures.node c.in_ok-push_all.ensures.out in (
      sent,
      frames,
      c.in_ok-came.ensures.sent ∙ ap (put_behind (g.K.Sink.written (sink_of c.args.conn.now)))
          (turn_same keys keys (seen_of c.args.streams.now) file file (nodes.party_of c.push_all.new.node) (nodes.party_of (node_of c.args.seat)) c.deref.result.now (log_of (node_of c.args.seat))
          sent sent (Some c.args.wait) refl refl party noted refl),
    )

pub returns-clause-number : goal.returns-clause-number
returns-clause-number g c =
    let m = c.into_parts-lanes.result.1 in
    let from = ap works.node_of c.into_parts-worker.ensures.worker in
    number_same (seen_of c.exchange.new.streams) (seen_of c.args.streams.now) (nodes.party_of c.push_all.new.node) (nodes.party_of (node_of c.args.seat)) c.deref.result.now (log_of (node_of c.args.seat))
    (c.push_all.ensures.node.party ∙ c.into_parts-lanes.ensures.node.party ∙ ap nodes.party_of from) (c.deref.ensures.value ∙ c.into_parts-lanes.ensures.log ∙ ap log_of from) c.in_ok-came.ensures.number

pub returns-clause-goes : goal.returns-clause-goes
returns-clause-goes g c =
    let a = c.args.seat in
    let b = c.with_worker.result in
    let w = c.into_parts-worker.result.0 in
    let m = c.into_parts-lanes.result.1 in
    let k = c.push_all.new.node in
    let n = node_in c.exchange.new.player in
    let later = c.push_all.new.lanes.outs.items in
    let last = outs_in c.exchange.new.player in
    let from = ap works.node_of c.into_parts-worker.ensures.worker in
    let noted : c.deref.result.now ≡ log_of (node_of a) = c.deref.ensures.value ∙ c.into_parts-lanes.ensures.log ∙ ap log_of from in
    let out = c.in_ok-push_all.ensures.out in
    let outs : outs_of b ≡ last = ap (λ v. (works.lanes_of v).outs.items) c.with_worker.ensures.worker ∙ ap (λ l. l.outs.items) c.new-worker.ensures.lanes in
    let node : node_of b ≡ k = ap works.node_of c.with_worker.ensures.worker ∙ c.new-worker.ensures.node ∙ c.in_ok-came.ensures.node in
    record {
      still = put_back c.into_parts-worker.result.1 a b w c.new-worker.result m n c.into_parts-worker.ensures.holds c.with_worker.ensures.holds
          c.into_parts-worker.ensures.worker c.into_parts-lanes.ensures.node (resembles_then m k n (after_out m k c.push_all.ensures.node) (resembles_same k n c.in_ok-came.ensures.node)) c.new-worker.ensures.node
          c.with_worker.ensures.worker;
      log = ap log_of node ∙ c.push_all.ensures.node.log ∙ c.into_parts-lanes.ensures.none;
      left = subst (λ (es : List Entry). IsLeft es a b) noted (left_by c.deref.result.now a b later last k c.in_ok-came.ensures.lanes outs node
          (c.push_all.ensures.node.parties ∙ c.into_parts-lanes.ensures.node.parties ∙ ap nodes.parties_of from) out.out
          (has_out a c.into_parts-lanes.result.0 w m k later c.into_parts-worker.ensures.worker c.into_parts-lanes.ensures.lanes c.into_parts-lanes.ensures.node out));
    }
