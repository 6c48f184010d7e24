use Rattle.std.proofs.Common.{◌≡◌, ◌<◌, ◌^◌, ◌∙◌, ap, arith, length, refl, slice_get, sym, true, false}
use Rattle.std.proofs.Math.ListN.{set}
use Rattle.std.proofs.lemmas.List.{length-set}
use Rattle.std.proofs.lemmas.Option.{slice_get_read}
use Rattle.sj_forward.specs.Outs.{Outs, lane_in}
use Rattle.sj_forward.specs.Views.{frame_at}
use Rattle.sj_forward.proofs.ForwarderWorldLemmas.{few_events}
use Rattle.sj_forward.proofs.ResultLemmas.{or_err}
use Rattle.sj_forward.proofs.StillLemmas.{plain_still, reached_in, stays_in}
use Rattle.sj_forward.proofs.TurnLemmas.{came_reached, came_steps, empty_lane, few_passed, front_of_giver, front_steps, has_row, lane_filled}
use Rattle.sj_forward.proofs.forwarder_world.ForwarderWorld.deliver.Goals as goal

pub deliver-requires : goal.deliver-requires
deliver-requires c =
    let forwarders = c.args.self.now.forwarders.items in
    let from = c.index-giver.result.now in
    let old = c.index_mut-forwarder.result.now in
    let front = front_of_giver c.args.self.now c.args.party c.args.from from (frame_at c.in-Some.frame)
    (slice_get_read forwarders (length forwarders) c.args.from from refl c.requires.origin c.index-giver.ensures)
    (c.in-Some.ensures ∙ ap (λ (outs : Outs). slice_get (lane_in outs c.args.party) 0) c.deref.ensures.value) in
    has_row c.args.self.now c.requires.reached c.args.party c.args.from old (frame_at c.in-Some.frame) front.0
    (slice_get_read forwarders (length forwarders) c.args.party old refl c.requires.there c.index_mut-forwarder.ensures.value) front.1

pub drop_front-requires : goal.drop_front-requires
drop_front-requires c =
    let forwarders = c.args.self.now.forwarders.items in
    let from = c.index-giver.result.now in
    let old = c.index_mut-forwarder.result.now in
    let front = front_of_giver c.args.self.now c.args.party c.args.from from (frame_at c.in-Some.frame)
    (slice_get_read forwarders (length forwarders) c.args.from from refl c.requires.origin c.index-giver.ensures)
    (c.in-Some.ensures ∙ ap (λ (outs : Outs). slice_get (lane_in outs c.args.party) 0) c.deref.ensures.value) in
    let giver = c.index_mut-giver.result.now in
    lane_filled c.args.self.now c.requires.reached c.args.party c.args.from old (frame_at c.in-Some.frame) front.0
    (slice_get_read forwarders (length forwarders) c.args.party old refl c.requires.there c.index_mut-forwarder.ensures.value) front.1
    c.deliver.new.self c.in_ok-deliver.ensures.ok giver
    (slice_get_read (set forwarders c.args.party c.deliver.new.self) (length forwarders) c.args.from giver (sym (length-set forwarders c.args.party c.deliver.new.self)) c.requires.origin c.index_mut-giver.ensures.value)

pub returns-clause-ok : goal.returns-clause-ok
returns-clause-ok c =
    let forwarders = c.args.self.now.forwarders.items in
    let from = c.index-giver.result.now in
    let old = c.index_mut-forwarder.result.now in
    let front = front_of_giver c.args.self.now c.args.party c.args.from from (frame_at c.in-Some.frame)
    (slice_get_read forwarders (length forwarders) c.args.from from refl c.requires.origin c.index-giver.ensures)
    (c.in-Some.ensures ∙ ap (λ (outs : Outs). slice_get (lane_in outs c.args.party) 0) c.deref.ensures.value) in
    let giver = c.index_mut-giver.result.now in
    came_steps c.args.self.now c.requires.reached c.args.party c.args.from old (frame_at c.in-Some.frame) front.0
    (slice_get_read forwarders (length forwarders) c.args.party old refl c.requires.there c.index_mut-forwarder.ensures.value) front.1
    c.deliver.new.self c.in_ok-deliver.ensures.ok giver
    (slice_get_read (set forwarders c.args.party c.deliver.new.self) (length forwarders) c.args.from giver (sym (length-set forwarders c.args.party c.deliver.new.self)) c.requires.origin c.index_mut-giver.ensures.value)
    (record giver { outs = c.drop_front.new.outs }) (λ g. refl) c.drop_front.ensures _ refl refl refl refl

pub returns-clause-reached : goal.returns-clause-reached
returns-clause-reached c =
    let forwarders = c.args.self.now.forwarders.items in
    let from = c.index-giver.result.now in
    let old = c.index_mut-forwarder.result.now in
    let front = front_of_giver c.args.self.now c.args.party c.args.from from (frame_at c.in-Some.frame)
    (slice_get_read forwarders (length forwarders) c.args.from from refl c.requires.origin c.index-giver.ensures)
    (c.in-Some.ensures ∙ ap (λ (outs : Outs). slice_get (lane_in outs c.args.party) 0) c.deref.ensures.value) in
    let giver = c.index_mut-giver.result.now in
    came_reached c.args.self.now c.requires.reached c.args.party c.args.from old (frame_at c.in-Some.frame) front.0
    (slice_get_read forwarders (length forwarders) c.args.party old refl c.requires.there c.index_mut-forwarder.ensures.value) front.1
    c.deliver.new.self c.in_ok-deliver.ensures.ok giver
    (slice_get_read (set forwarders c.args.party c.deliver.new.self) (length forwarders) c.args.from giver (sym (length-set forwarders c.args.party c.deliver.new.self)) c.requires.origin c.index_mut-giver.ensures.value)
    (record giver { outs = c.drop_front.new.outs }) (λ g. refl) c.drop_front.ensures _ refl refl refl refl

pub returns-clause-no_step : goal.returns-clause-no_step
returns-clause-no_step c =
    let forwarders = c.args.self.now.forwarders.items in
    let from = c.index-giver.result.now in
    let old = c.index_mut-forwarder.result.now in
    let front = front_of_giver c.args.self.now c.args.party c.args.from from (frame_at c.in-Some.frame)
    (slice_get_read forwarders (length forwarders) c.args.from from refl c.requires.origin c.index-giver.ensures)
    (c.in-Some.ensures ∙ ap (λ (outs : Outs). slice_get (lane_in outs c.args.party) 0) c.deref.ensures.value) in
    let ready = front_steps c.args.self.now c.args.party c.args.from (frame_at c.in-Some.frame) front.0 front.1 in
    (λ said. absurd (cc said), λ none. absurd (let it : true ≡ false = sym ready ∙ none in cc it))

pub returns-in_default-clause-no_step : goal.returns-in_default-clause-no_step
returns-in_default-clause-no_step c =
    let forwarders = c.args.self.now.forwarders.items in
    let from = c.index-giver.result.now in (
      λ said. empty_lane c.args.self.now c.args.party c.args.from from (slice_get_read forwarders (length forwarders) c.args.from from refl c.requires.origin c.index-giver.ensures)
          (c.in_default.ensures ∙ ap (λ (outs : Outs). slice_get (lane_in outs c.args.party) 0) c.deref.ensures.value),
      λ none. refl,
    )

pub returns-in_err-deliver-clause-err : goal.returns-in_err-deliver-clause-err
returns-in_err-deliver-clause-err c =
    let forwarders = c.args.self.now.forwarders.items in
    let old = c.index_mut-forwarder.result.now in
    or_err c.from_residual.result
    (stays_in c.args.self.now _ c.args.party old c.deliver.new.self
    (slice_get_read forwarders (length forwarders) c.args.party old refl c.requires.there c.index_mut-forwarder.ensures.value) c.in_err-deliver.ensures.err (plain_still c.args.self.now.plain) refl refl refl)

pub returns-in_err-deliver-clause-reached : goal.returns-in_err-deliver-clause-reached
returns-in_err-deliver-clause-reached c =
    let forwarders = c.args.self.now.forwarders.items in
    let old = c.index_mut-forwarder.result.now in
    reached_in c.args.self.now _ c.args.party old c.deliver.new.self
    (slice_get_read forwarders (length forwarders) c.args.party old refl c.requires.there c.index_mut-forwarder.ensures.value) c.in_err-deliver.ensures.err (plain_still c.args.self.now.plain) refl refl refl
    c.requires.reached refl

pub overflow_add-self : goal.overflow_add-self
overflow_add-self c = let low : c.args.self.now.passed < 2 ^ 63 = few_passed c.args.self.now c.requires.reached in omega (arith, low)

pub overflow_add-self-2 : goal.overflow_add-self-2
overflow_add-self-2 c = let low : c.args.self.now.events < 2 ^ 63 = few_events c.args.self.now c.requires.reached in omega (arith, low)
