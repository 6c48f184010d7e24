use Rattle.std.proofs.Common.{◌∙◌, [], ◌∷◌, ◌++◌, map, ap, sym}
use Rattle.std.specs.Global.{Vec}
use Rattle.std.proofs.lemmas.List.{map-append}
use Rattle.sj_end.specs.declared.note.Entry.{Entry}
use Rattle.sj_node.specs.Node.{log_of}
use Rattle.sj_work.specs.Views.{lanes_of, node_of}
use Rattle.sj_seat_run.proofs.remains.take_apart.Goals as goal

pub loop-worker-init : goal.loop-worker-init
loop-worker-init g c = (c.new-lanes.ensures.items, ap (map (λ (v : Vec Entry). v.items)) c.new-logs.ensures.items)

pub loop-worker-preserved : goal.loop-worker-preserved
loop-worker-preserved g c =
    let yielded = c.loop-worker.yielded in
    let worker = c.in-Some.worker in
    let parts = c.into_parts-own in
    let so = c.loop-worker.invariant in (
      c.in_ok-push.ensures.items ∙ (λ i. so.0 i ++ parts.ensures.lanes i ∷ []) ∙ sym (map-append lanes_of yielded (worker ∷ [])),
      ap (map (λ (v : Vec Entry). v.items)) c.in_ok-push-2.ensures.items
          ∙ map-append (λ (v : Vec Entry). v.items) c.loop-worker.logs.items (parts.result.2 ∷ [])
          ∙ (λ i. so.1 i ++ parts.ensures.log i ∷ [])
          ∙ sym (map-append (λ w. log_of (node_of w)) yielded (worker ∷ [])),
    )
