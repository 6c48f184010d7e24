use Rattle.std.proofs.Common.{◌≡◌, ◌∙◌, ap, map, refl}
use Rattle.std.proofs.lemmas.Result.{on_ok_weaker}
use Rattle.sj_base.specs.Stream.{put_behind}
use Rattle.sj_engine.specs.Lanes.{pushed_on}
use Rattle.sj_lang.specs.FileView.{file_of}
use Rattle.sj_node.specs.Node.{log_of}
use Rattle.sj_node.specs.Reading as nodes
use Rattle.sj_remote.specs.Conn.{sink_of}
use Rattle.sj_remote.specs.Streams.{keys_of, seen_of}
use Rattle.sj_seat.specs.Views.{node_of}
use Rattle.sj_streams.specs.Words.{words_at}
use Rattle.sj_work.specs.Views as works
use Rattle.sj_remote_seat.proofs.HandedLemmas.{batch_same, handed_out}
use Rattle.sj_remote_seat.proofs.handing.hand_in_last.Goals as goal

pub returns : goal.returns
returns g c =
    let m = c.into_parts-lanes.result.1 in
    let from = ap works.node_of c.into_parts-worker.ensures.worker in
    let keys = words_at (keys_of c.args.streams.now) in
    let file = file_of c.args.file.now in
    let sent = map pushed_on c.push_all.new.lanes.outs.items in
    let party : nodes.party_of c.push_all.new.node ≡ nodes.party_of (node_of c.args.seat) = c.push_all.ensures.node.party ∙ c.into_parts-lanes.ensures.node.party ∙ ap nodes.party_of from in
    let noted : c.deref.result.now ≡ log_of (node_of c.args.seat) = c.deref.ensures.value ∙ c.into_parts-lanes.ensures.log ∙ ap log_of from in
    let frames = handed_out c.args.seat c.into_parts-lanes.result.0 c.into_parts-worker.result.0 m c.push_all.new.node c.push_all.new.lanes.outs.items c.into_parts-worker.ensures.worker c.into_parts-lanes.ensures.lanes
    c.into_parts-lanes.ensures.node c.push_all.ensures.node c.in_ok-push_all.ensures.out in
    on_ok_weaker c.add.result (λ is. (
      sent,
      frames,
      is ∙ ap (put_behind (g.K.Sink.written (sink_of c.args.conn.now)))
          (batch_same keys keys (seen_of c.args.streams.now) file file (nodes.party_of c.push_all.new.node) (nodes.party_of (node_of c.args.seat)) c.deref.result.now (log_of (node_of c.args.seat))
          sent sent refl refl party noted refl),
    )) c.add.ensures.sent
