use Rattle.std.proofs.Common.{◌≡◌, ◌∙◌, ap, length, map, rules}
use Rattle.sj_engine.specs.Lanes.{pushed_on}
use Rattle.sj_node.specs.Reading as nodes
use Rattle.sj_remote_run.proofs.PostLemmas.{clear_none, written_clear}
use Rattle.sj_work.specs.Views as works
use Rattle.sj_remote_seat.proofs.ApartLemmas.{put_back}
use Rattle.sj_remote_seat.proofs.CaughtLemmas.{idle_like}
use Rattle.sj_remote_seat.proofs.HandedLemmas.{clear_put, handed_out}
use Rattle.sj_remote_seat.proofs.SatLemmas.{after_entry, after_out, resembles_same, resembles_then}
use Rattle.sj_remote_seat.proofs.again.do_again.Goals as goal

pub with_worker-requires-clause-same : goal.with_worker-requires-clause-same
with_worker-requires-clause-same g c =
    ap nodes.table_of c.new-worker.ensures.node ∙ c.push_all.ensures.node.table ∙ c.into_parts-lanes.ensures.node.table ∙ c.into_parts-worker.ensures.same

pub with_worker-requires-clause-idle : goal.with_worker-requires-clause-idle
with_worker-requires-clause-idle g c =
    let w = works.node_of c.into_parts-worker.result.0 in
    let m = c.into_parts-lanes.result.1 in
    let k = c.push_all.new.node in
    let v = works.node_of c.new-worker.result in
    let like = resembles_then w m v (after_entry w m c.into_parts-lanes.ensures.node) (resembles_then m k v (after_out m k c.push_all.ensures.node) (resembles_same k v c.new-worker.ensures.node)) in
    idle_like w v like c.into_parts-worker.ensures.idle

pub returns-clause-again : goal.returns-clause-again
returns-clause-again g c =
    let s = c.in_ok-seat.seat in
    let b = c.with_worker.result in
    let m = c.into_parts-lanes.result.1 in
    let k = c.push_all.new.node in
    let later = c.push_all.new.lanes.outs.items in
    record {
      noted = c.in_ok-seat.made.items;
      clear = c.requires.clear;
      mid = s;
      sat = c.in_ok-seat.ensures.sat;
      posts = map pushed_on later;
      handed = handed_out s c.into_parts-lanes.result.0 c.into_parts-worker.result.0 m k later c.into_parts-worker.ensures.worker c.into_parts-lanes.ensures.lanes c.into_parts-lanes.ensures.node c.push_all.ensures.node
          c.in_ok-push_all.ensures.out;
      spelt = search rules;
      still = put_back c.into_parts-worker.result.1 s b c.into_parts-worker.result.0 c.new-worker.result m k c.into_parts-worker.ensures.holds c.with_worker.ensures.holds c.into_parts-worker.ensures.worker
          c.into_parts-lanes.ensures.node (after_out m k c.push_all.ensures.node) c.new-worker.ensures.node c.with_worker.ensures.worker;
    }

pub returns-clause-clear : goal.returns-clause-clear
returns-clause-clear g c =
    let b = c.with_worker.result in
    let k = c.push_all.new.node in
    let long : length c.clear.new.outs ≡ c.push_all.new.lanes.outs.len = search rules in
    clear_put b _ k (ap (λ v. (works.lanes_of v).outs.items) c.with_worker.ensures.worker ∙ ap (λ l. l.outs.items) c.new-worker.ensures.lanes) (ap works.node_of c.with_worker.ensures.worker ∙ c.new-worker.ensures.node)
    (clear_none _ k (written_clear c.push_all.new.lanes.outs.len c.clear.new.outs _ long c.clear.ensures.clear) c.in_ok-push_all.ensures.out.out.none)
