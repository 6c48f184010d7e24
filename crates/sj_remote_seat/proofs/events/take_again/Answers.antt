use Rattle.std.proofs.Common.{◌∙◌, ap}
use Rattle.sj_end.specs.Views.{frame_at}
use Rattle.sj_node.specs.Reading as nodes
use Rattle.sj_remote_run.proofs.PostLemmas.{has_entry}
use Rattle.sj_remote_run.specs.Posts.{has_for}
use Rattle.sj_seat.specs.Views.{node_of}
use Rattle.sj_work.specs.Views as works
use Rattle.sj_remote_seat.proofs.CaughtLemmas.{idle_like}
use Rattle.sj_remote_seat.proofs.DeliveredLemmas.{idle_delivered, sat_delivered, table_delivered}
use Rattle.sj_remote_seat.proofs.HandedLemmas.{has_in}
use Rattle.sj_remote_seat.proofs.SatLemmas.{after_entry, after_out, resembles_same, resembles_then, seats_same}
use Rattle.sj_remote_seat.proofs.events.take_again.Goals as goal

pub with_worker-requires-clause-same : goal.with_worker-requires-clause-same
with_worker-requires-clause-same c =
    let m = c.into_parts-lanes.result.1 in
    let n = c.deliver.new.node in
    let d = c.in_ok-deliver.ensures.delivered in
    ap nodes.table_of c.new-worker.ensures.node ∙ c.push_all.ensures.node.table ∙ c.take_log.ensures.rest.table ∙ table_delivered m n c.args.from (frame_at c.in_ok-frame.frame) d
    ∙ c.into_parts-lanes.ensures.node.table ∙ c.into_parts-worker.ensures.same

pub with_worker-requires-clause-idle : goal.with_worker-requires-clause-idle
with_worker-requires-clause-idle c =
    let w = works.node_of c.into_parts-worker.result.0 in
    let m = c.into_parts-lanes.result.1 in
    let n = c.deliver.new.node in
    let p = c.take_log.new.self in
    let q = c.push_all.new.node in
    let v = works.node_of c.new-worker.result in
    let d = c.in_ok-deliver.ensures.delivered in
    let like = resembles_then p q v (after_out p q c.push_all.ensures.node) (resembles_same q v c.new-worker.ensures.node) in
    let before = idle_like w m (after_entry w m c.into_parts-lanes.ensures.node) c.into_parts-worker.ensures.idle in
    let after = idle_like n p (after_entry n p c.take_log.ensures.rest) (idle_delivered m n c.args.from (frame_at c.in_ok-frame.frame) d before) in
    idle_like p v like after

pub returns-clause-sat : goal.returns-clause-sat
returns-clause-sat c =
    let a = c.args.seat in
    let b = c.with_worker.result in
    let w = works.node_of c.into_parts-worker.result.0 in
    let m = c.into_parts-lanes.result.1 in
    let n = c.deliver.new.node in
    let p = c.take_log.new.self in
    let q = c.push_all.new.node in
    let before = resembles_then (node_of a) w m (resembles_same (node_of a) w (ap works.node_of c.into_parts-worker.ensures.worker)) (after_entry w m c.into_parts-lanes.ensures.node) in
    let last = resembles_same q (node_of b) (ap works.node_of c.with_worker.ensures.worker ∙ c.new-worker.ensures.node) in
    let after = resembles_then n p (node_of b) (after_entry n p c.take_log.ensures.rest) (resembles_then p q (node_of b) (after_out p q c.push_all.ensures.node) last) in
    let lanes = c.into_parts-lanes.result.0.outs.items in
    let out = c.in_ok-push_all.ensures.out in
    sat_delivered m n c.args.from (frame_at c.in_ok-frame.frame) c.in_ok-deliver.ensures.delivered a b c.args.entry.now lanes c.into_parts-lanes.ensures.none c.in_ok-deliver.ensures.only before after
    (seats_same c.into_parts-worker.result.1 a b c.into_parts-worker.ensures.holds c.with_worker.ensures.holds)
    (λ r other. has_entry lanes w m c.into_parts-lanes.ensures.node r ∙ ap (λ l. has_for l.outs.items w r) c.into_parts-lanes.ensures.lanes ∙ ap (λ v. has_in v r) c.into_parts-worker.ensures.worker)
    (λ r other. ap (λ v. has_in v r) c.with_worker.ensures.worker ∙ (λ i. has_for (c.new-worker.ensures.lanes i).outs.items (c.new-worker.ensures.node i) r)
    ∙ out.same r (λ is. other (is ∙ c.take_log.ensures.rest.party)) ∙ has_entry lanes n p c.take_log.ensures.rest r)
