use Rattle.std.proofs.Common.{length, refl}
use Rattle.std.proofs.lemmas.Option.{slice_get_read}
use Rattle.sj_core.specs.NodeWorld.{file_in}
use Rattle.sj_core.proofs.PutBackLemmas.{no_front}
use Rattle.sj_core.proofs.ReachedLemmas.{reached_still, stayed}
use Rattle.sj_core.proofs.StepLemmas.{rests}
use Rattle.sj_core.proofs.node_world.NodeWorld.takes.Goals as goal

pub returns-then-nothing_waits-clause-none : goal.returns-then-nothing_waits-clause-none
returns-then-nothing_waits-clause-none c =
    let nodes = c.args.self.now.nodes.items in
    let giver = c.index.result.now in
    λ no. no_front (file_in c.args.self.now) nodes c.args.party c.args.from giver (slice_get_read nodes (length nodes) c.args.from giver refl c.requires.origin c.index.ensures) (c.nothing_waits.ensures.0 c.if-nothing_waits.true)

pub returns-then-nothing_waits-clause-stays : goal.returns-then-nothing_waits-clause-stays
returns-then-nothing_waits-clause-stays c =
    let nodes = c.args.self.now.nodes.items in
    let giver = c.index_mut.result.now in
    λ no. stayed c.args.self.now _
    (rests (file_in c.args.self.now) nodes c.args.from giver c.give_up_room.new.self c.requires.reached.seats
    (slice_get_read nodes (length nodes) c.args.from giver refl c.requires.origin c.index_mut.ensures.value)
    c.give_up_room.ensures.stays) refl refl

pub returns-then-nothing_waits-clause-reached : goal.returns-then-nothing_waits-clause-reached
returns-then-nothing_waits-clause-reached c =
    let nodes = c.args.self.now.nodes.items in
    let giver = c.index_mut.result.now in
    reached_still c.args.self.now _ c.requires.reached
    (rests (file_in c.args.self.now) nodes c.args.from giver c.give_up_room.new.self c.requires.reached.seats
    (slice_get_read nodes (length nodes) c.args.from giver refl c.requires.origin c.index_mut.ensures.value)
    c.give_up_room.ensures.stays) refl refl
