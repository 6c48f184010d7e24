use Rattle.std.proofs.Common.{◌∙◌, [], ◌∷◌, ◌++◌, is_some, map, ap, sym}
use Rattle.std.proofs.lemmas.List.{map-append}
use Rattle.std.specs.Global.{Vec}
use Rattle.sj_seat.specs.declared.wish.OpenedSession.{OpenedSession}
use Rattle.sj_seat_run.specs.Runners.{is_coded, lists_of, opened_at, worker_at}
use Rattle.sj_seat_run.proofs.remains.stand_up.Goals as goal

pub loop-runner-init : goal.loop-runner-init
loop-runner-init g c = (c.new-workers.ensures.items, ap (map is_some) c.new-codes.ensures.items, ap lists_of c.new-opened.ensures.items)

pub loop-runner-preserved : goal.loop-runner-preserved
loop-runner-preserved g c =
    let yielded = c.loop-runner.yielded in
    let runner = c.in-Some.runner in
    let parts = c.into_parts-worker in
    let so = c.loop-runner.invariant in (
      c.in_ok-push.ensures.items ∙ (λ i. so.0 i ++ parts.ensures.worker i ∷ []) ∙ sym (map-append worker_at yielded (runner ∷ [])),
      ap (map is_some) c.in_ok-push-2.ensures.items
          ∙ map-append is_some c.loop-runner.codes.items (parts.result.1 ∷ [])
          ∙ (λ i. so.1 i ++ parts.ensures.code i ∷ [])
          ∙ sym (map-append is_coded yielded (runner ∷ [])),
      ap lists_of c.in_ok-push-3.ensures.items
          ∙ map-append (λ (v : Vec OpenedSession). v.items) c.loop-runner.opened.items (parts.result.2 ∷ [])
          ∙ (λ i. so.2 i ++ parts.ensures.opened i ∷ [])
          ∙ sym (map-append opened_at yielded (runner ∷ [])),
    )
