use Rattle.std.proofs.Common.{Err, ap, length, refl}
use Rattle.std.proofs.lemmas.Option.{slice_get_read}
use Rattle.sj_core.proofs.node_world.NodeWorld.act.Goals as goal
use Rattle.sj_core.proofs.LawLemmas.{low_node}
use Rattle.sj_core.proofs.StepLemmas.{acted_as, is_a_step, rests}
use Rattle.sj_core.proofs.StopLemmas.{error_is, no_step_of, not_unfit, stops}

pub returns-in-Ok-clause-ok : goal.returns-in-Ok-clause-ok
returns-in-Ok-clause-ok c =
    let nodes = c.args.self.now.nodes.items in
    let old = c.index_mut-node.result.now in
    acted_as _ nodes c.args.party old c.noted.new.node c.requires.led.seats
    (slice_get_read nodes (length nodes) c.args.party old refl c.requires.there c.index_mut-node.ensures.value)
    c.act.new.self c.noted.result c.noted.ensures.rest c.noted.ensures.entry c.in-Ok.ensures.ok

pub returns-in-Ok-clause-none : goal.returns-in-Ok-clause-none
returns-in-Ok-clause-none c =
    let nodes = c.args.self.now.nodes.items in
    let old = c.index_mut-node.result.now in
    is_a_step _ nodes c.args.party _ c.noted.result _
    (acted_as _ nodes c.args.party old c.noted.new.node c.requires.led.seats
    (slice_get_read nodes (length nodes) c.args.party old refl c.requires.there c.index_mut-node.ensures.value)
    c.act.new.self c.noted.result c.noted.ensures.rest c.noted.ensures.entry c.in-Ok.ensures.ok)

pub refusal_of-requires : goal.refusal_of-requires
refusal_of-requires c =
    let nodes = c.args.self.now.nodes.items in
    let old = c.index_mut-node.result.now in
    let there = slice_get_read nodes (length nodes) c.args.party old refl c.requires.there c.index_mut-node.ensures.value in
    λ unfit. not_unfit c.args.self.now c.requires.led c.args.party old there c.in-Err.halt
    (λ h. error_is _ _ (c.in-Err.ensures.ended.1 h)) (λ h. error_is _ _ (c.in-Err.ensures.at_limit.1 h)) (λ h. error_is _ _ (c.in-Err.ensures.waits.1 h))
    (λ h. c.in-Err.ensures.unfit (ap Err h)) unfit

pub returns-in-Err-clause-none : goal.returns-in-Err-clause-none
returns-in-Err-clause-none c =
    let nodes = c.args.self.now.nodes.items in
    let old = c.index_mut-node.result.now in
    let there = slice_get_read nodes (length nodes) c.args.party old refl c.requires.there c.index_mut-node.ensures.value in (
      λ no. no_step_of c.args.self.now c.requires.led c.args.party old there c.in-Err.halt
          (λ h. error_is _ _ (c.in-Err.ensures.ended.1 h)) (λ h. error_is _ _ (c.in-Err.ensures.at_limit.1 h)) (λ h. error_is _ _ (c.in-Err.ensures.waits.1 h))
          (c.refusal_of.ensures.0 (error_is _ _ no))
          (λ h. c.in-Err.ensures.ended.0 (ap Err h)) (λ h. c.in-Err.ensures.at_limit.0 (ap Err h)) (λ h. c.in-Err.ensures.waits.0 (ap Err h)),
      λ none. ap Err
          (c.refusal_of.ensures.1
          (stops c.args.self.now c.requires.led c.args.party old there c.in-Err.halt
          (λ h. error_is _ _ (c.in-Err.ensures.ended.1 h)) (λ h. error_is _ _ (c.in-Err.ensures.at_limit.1 h)) (λ h. error_is _ _ (c.in-Err.ensures.waits.1 h)) none)),
    )

pub returns-in-Err-clause-err : goal.returns-in-Err-clause-err
returns-in-Err-clause-err c =
    let nodes = c.args.self.now.nodes.items in
    let old = c.index_mut-node.result.now in
    rests _ nodes c.args.party old c.act.new.self c.requires.led.seats
    (slice_get_read nodes (length nodes) c.args.party old refl c.requires.there c.index_mut-node.ensures.value)
    c.in-Err.ensures.err

pub act-requires : goal.act-requires
act-requires c =
    let nodes = c.args.self.now.nodes.items in
    let old = c.index_mut-node.result.now in
    record { clock = low_node c.args.self.now c.requires.led c.args.party old (slice_get_read nodes (length nodes) c.args.party old refl c.requires.there c.index_mut-node.ensures.value) }
