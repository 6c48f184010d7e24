use Rattle.std.proofs.Common.{◌<◌, ◌^◌, length, refl, arith}
use Rattle.std.proofs.lemmas.Option.{slice_get_read}
use Rattle.sj_forward.proofs.ForwarderWorldLemmas.{few_events}
use Rattle.sj_forward.proofs.ReadyLemmas.{has_act, plain_ready}
use Rattle.sj_forward.proofs.ResultLemmas.{or_err}
use Rattle.sj_forward.proofs.StillLemmas.{plain_still, reached_in, stays_in}
use Rattle.sj_forward.proofs.TurnLemmas.{act_reached, act_steps, plain_party, still_parties}
use Rattle.sj_forward.proofs.forwarder_world.ForwarderWorld.act_on.Goals as goal

pub act_plainly-requires-clause-there : goal.act_plainly-requires-clause-there
act_plainly-requires-clause-there c = plain_party c.args.self.now c.requires.reached c.args.party c.requires.there

pub act_plainly-requires-clause-ready : goal.act_plainly-requires-clause-ready
act_plainly-requires-clause-ready c =
    let forwarders = c.args.self.now.forwarders.items in
    let old = c.index_mut-forwarder.result.now in
    plain_ready c.args.self.now c.requires.reached c.args.party old c.args.want
    (slice_get_read forwarders (length forwarders) c.args.party old refl c.requires.there c.index_mut-forwarder.ensures.value) c.requires.wants c.requires.ready

pub act-requires-clause-fits : goal.act-requires-clause-fits
act-requires-clause-fits c =
    let forwarders = c.args.self.now.forwarders.items in
    let old = c.index_mut-forwarder.result.now in
    has_act c.args.self.now c.requires.reached c.args.party old c.args.want
    (slice_get_read forwarders (length forwarders) c.args.party old refl c.requires.there c.index_mut-forwarder.ensures.value) c.requires.wants c.requires.ready c.make_room.new.self c.make_room.ensures.same

pub returns-clause-ok : goal.returns-clause-ok
returns-clause-ok c =
    let forwarders = c.args.self.now.forwarders.items in
    let old = c.index_mut-forwarder.result.now in
    act_steps c.args.self.now c.requires.reached c.args.party old c.make_room.new.self c.act.new.self c.args.want
    (slice_get_read forwarders (length forwarders) c.args.party old refl c.requires.there c.index_mut-forwarder.ensures.value) c.requires.wants c.requires.ready c.make_room.ensures.same c.act.ensures
    _ c.in_ok-act_plainly.ensures.ok refl refl refl

pub returns-clause-reached : goal.returns-clause-reached
returns-clause-reached c =
    let forwarders = c.args.self.now.forwarders.items in
    let old = c.index_mut-forwarder.result.now in
    act_reached c.args.self.now c.requires.reached c.args.party old c.make_room.new.self c.act.new.self c.args.want
    (slice_get_read forwarders (length forwarders) c.args.party old refl c.requires.there c.index_mut-forwarder.ensures.value) c.requires.wants c.requires.ready c.make_room.ensures.same c.act.ensures
    _ c.in_ok-act_plainly.ensures.ok refl refl refl

pub returns-in_err-make_room-clause-err : goal.returns-in_err-make_room-clause-err
returns-in_err-make_room-clause-err c =
    let forwarders = c.args.self.now.forwarders.items in
    let old = c.index_mut-forwarder.result.now in
    or_err c.from_residual.result
    (stays_in c.args.self.now _ c.args.party old c.make_room.new.self
    (slice_get_read forwarders (length forwarders) c.args.party old refl c.requires.there c.index_mut-forwarder.ensures.value) c.make_room.ensures.same (plain_still c.args.self.now.plain) refl refl refl)

pub returns-in_err-make_room-clause-reached : goal.returns-in_err-make_room-clause-reached
returns-in_err-make_room-clause-reached c =
    let forwarders = c.args.self.now.forwarders.items in
    let old = c.index_mut-forwarder.result.now in
    reached_in c.args.self.now _ c.args.party old c.make_room.new.self
    (slice_get_read forwarders (length forwarders) c.args.party old refl c.requires.there c.index_mut-forwarder.ensures.value) c.make_room.ensures.same (plain_still c.args.self.now.plain) refl refl refl
    c.requires.reached refl

pub returns-in_err-act_plainly-clause-err : goal.returns-in_err-act_plainly-clause-err
returns-in_err-act_plainly-clause-err c =
    let forwarders = c.args.self.now.forwarders.items in
    let old = c.index_mut-forwarder.result.now in
    or_err c.from_residual-in_err-act_plainly.result
    (stays_in c.args.self.now _ c.args.party old c.make_room.new.self
    (slice_get_read forwarders (length forwarders) c.args.party old refl c.requires.there c.index_mut-forwarder.ensures.value) c.make_room.ensures.same c.in_err-act_plainly.ensures.err refl refl refl)

pub returns-in_err-act_plainly-clause-reached : goal.returns-in_err-act_plainly-clause-reached
returns-in_err-act_plainly-clause-reached c =
    let forwarders = c.args.self.now.forwarders.items in
    let old = c.index_mut-forwarder.result.now in
    reached_in c.args.self.now _ c.args.party old c.make_room.new.self
    (slice_get_read forwarders (length forwarders) c.args.party old refl c.requires.there c.index_mut-forwarder.ensures.value) c.make_room.ensures.same c.in_err-act_plainly.ensures.err refl refl refl
    c.requires.reached (still_parties c.args.self.now c.requires.reached c.act_plainly.new.plain c.in_err-act_plainly.ensures.err c.act_plainly.ensures.parties)

pub overflow_add-self : goal.overflow_add-self
overflow_add-self c = let low : c.args.self.now.events < 2 ^ 63 = few_events c.args.self.now c.requires.reached in omega (arith, low)
