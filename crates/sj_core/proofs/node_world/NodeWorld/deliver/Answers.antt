use Rattle.std.proofs.Common.{◌≡◌, Some, None, ◌∷◌, ap, length, refl, sym, ◌∙◌}
use Rattle.std.proofs.lemmas.List.{length-set}
use Rattle.std.proofs.lemmas.Option.{slice_get_read}
use Rattle.std.proofs.Math.ListN.{set}
use Rattle.sj_end.specs.Views.{frame_at}
use Rattle.sj_node.specs.Outs.{waiting_in}
use Rattle.sj_node.specs.Reading.{outs_of}
use Rattle.sj_core.proofs.node_world.NodeWorld.deliver.Goals as goal
use Rattle.sj_core.proofs.DeliverLemmas.{delivered_as, lane_is, low_now, not_unfit}
use Rattle.sj_core.proofs.PutBackLemmas.{no_front, no_memory_is, nothing_taken, put_back, refused_so}
use Rattle.sj_core.proofs.LawLemmas.{front_arrives, front_fits, low_clock}
use Rattle.sj_core.proofs.StepLemmas.{is_a_step}
use Rattle.sj_core.specs.NodeWorld.{file_in}

pub returns-in_default-clause-err : goal.returns-in_default-clause-err
returns-in_default-clause-err c =
    let nodes = c.args.self.now.nodes.items in
    let giver = c.index_mut.result.now in
    nothing_taken _ nodes c.args.party c.args.from giver c.take_out.new.self c.requires.led.seats
    (slice_get_read nodes (length nodes) c.args.from giver refl c.requires.origin c.index_mut.ensures.value)
    c.in_default.ensures.none c.in_default.ensures.empty c.take_out.ensures.others c.take_out.ensures.rest

pub returns-in-Ok-clause-ok : goal.returns-in-Ok-clause-ok
returns-in-Ok-clause-ok c =
    let nodes = c.args.self.now.nodes.items in
    let giver = c.index_mut.result.now in
    let short = c.take_out.new.self in
    let old = c.index_mut-node.result.now in
    delivered_as _ nodes c.args.party c.args.from giver short c.in-Some.frame c.requires.led.seats
    (slice_get_read nodes (length nodes) c.args.from giver refl c.requires.origin c.index_mut.ensures.value)
    c.in-Some.ensures.some c.take_out.ensures.others c.take_out.ensures.rest
    old c.noted.new.node
    (slice_get_read (set nodes c.args.from short) (length nodes) c.args.party old (sym (length-set nodes c.args.from short)) c.requires.there c.index_mut-node.ensures.value)
    c.deliver.new.self c.noted.result c.noted.ensures.rest c.noted.ensures.entry c.in-Ok.ensures.ok

pub returns-in-Ok-clause-none : goal.returns-in-Ok-clause-none
returns-in-Ok-clause-none c =
    let nodes = c.args.self.now.nodes.items in
    let giver = c.index_mut.result.now in
    let short = c.take_out.new.self in
    let old = c.index_mut-node.result.now in
    is_a_step _ nodes c.args.party _ c.noted.result _
    (delivered_as _ nodes c.args.party c.args.from giver short c.in-Some.frame c.requires.led.seats
    (slice_get_read nodes (length nodes) c.args.from giver refl c.requires.origin c.index_mut.ensures.value)
    c.in-Some.ensures.some c.take_out.ensures.others c.take_out.ensures.rest
    old c.noted.new.node
    (slice_get_read (set nodes c.args.from short) (length nodes) c.args.party old (sym (length-set nodes c.args.from short)) c.requires.there c.index_mut-node.ensures.value)
    c.deliver.new.self c.noted.result c.noted.ensures.rest c.noted.ensures.entry c.in-Ok.ensures.ok)

pub returns-in_default-clause-none : goal.returns-in_default-clause-none
returns-in_default-clause-none c =
    let nodes = c.args.self.now.nodes.items in
    let giver = c.index_mut.result.now in (
      λ said. no_front (file_in c.args.self.now) nodes c.args.party c.args.from giver
          (slice_get_read nodes (length nodes) c.args.from giver refl c.requires.origin c.index_mut.ensures.value)
          c.in_default.ensures.none,
      λ none. refl,
    )

pub returns-in-Err-clause-none : goal.returns-in-Err-clause-none
returns-in-Err-clause-none c =
    let nodes = c.args.self.now.nodes.items in
    let giver = c.index_mut.result.now in
    let there = slice_get_read nodes (length nodes) c.args.from giver refl c.requires.origin c.index_mut.ensures.value in
    let fits = front_fits c.args.self.now c.requires.led c.args.party c.args.from _ _
    (lane_is _ nodes c.args.party c.args.from giver c.take_out.new.self c.in-Some.frame c.requires.led.seats there c.in-Some.ensures.some c.take_out.ensures.others c.take_out.ensures.rest) in
    (λ said. no_memory_is _ _ c.without_memory.ensures said, λ none. absurd (let it : Some fits.0 ≡ None = sym fits.1 ∙ none in cc it))

pub returns-in-Err-clause-err : goal.returns-in-Err-clause-err
returns-in-Err-clause-err c =
    let nodes = c.args.self.now.nodes.items in
    let giver = c.index_mut.result.now in
    let short = c.take_out.new.self in
    let old = c.index_mut-node.result.now in
    let new = c.deliver.new.self in
    let back = c.index_mut-in-Err.result.now in
    let some = set nodes c.args.from short in
    put_back _ nodes c.args.party c.args.from giver short c.in-Some.frame c.requires.led.seats
    (slice_get_read nodes (length nodes) c.args.from giver refl c.requires.origin c.index_mut.ensures.value)
    c.in-Some.ensures.some c.take_out.ensures.others c.take_out.ensures.rest
    old new
    (slice_get_read some (length nodes) c.args.party old (sym (length-set nodes c.args.from short)) c.requires.there c.index_mut-node.ensures.value)
    c.in-Err.ensures.err
    back c.put_back.new.self
    (slice_get_read (set some c.args.party new) (length nodes) c.args.from back (sym (length-set some c.args.party new ∙ length-set nodes c.args.from short)) c.requires.origin c.index_mut-in-Err.ensures.value)
    (c.put_back.ensures.own ∙ ap (λ f. frame_at f ∷ waiting_in (outs_of back) c.args.party) c.in-Err.ensures.back)
    c.put_back.ensures.others c.put_back.ensures.rest

pub deliver-requires : goal.deliver-requires
deliver-requires c =
    let nodes = c.args.self.now.nodes.items in
    let giver = c.index_mut.result.now in
    let short = c.take_out.new.self in
    let old = c.index_mut-node.result.now in
    low_now _ nodes c.args.party c.args.from giver short c.in-Some.frame c.requires.led.seats
    (slice_get_read nodes (length nodes) c.args.from giver refl c.requires.origin c.index_mut.ensures.value)
    c.in-Some.ensures.some c.take_out.ensures.others c.take_out.ensures.rest
    old old
    (slice_get_read (set nodes c.args.from short) (length nodes) c.args.party old (sym (length-set nodes c.args.from short)) c.requires.there c.index_mut-node.ensures.value)
    (low_clock c.args.self.now c.requires.led c.args.party)

pub without_memory-requires : goal.without_memory-requires
without_memory-requires c =
    let nodes = c.args.self.now.nodes.items in
    let giver = c.index_mut.result.now in
    let short = c.take_out.new.self in
    let old = c.index_mut-node.result.now in
    let there = slice_get_read nodes (length nodes) c.args.from giver refl c.requires.origin c.index_mut.ensures.value in
    let here = slice_get_read (set nodes c.args.from short) (length nodes) c.args.party old (sym (length-set nodes c.args.from short)) c.requires.there c.index_mut-node.ensures.value in
    let arrived = front_arrives c.args.self.now c.requires.led c.args.party c.args.from _ _
    (lane_is _ nodes c.args.party c.args.from giver short c.in-Some.frame c.requires.led.seats there c.in-Some.ensures.some c.take_out.ensures.others c.take_out.ensures.rest) in
    λ unfit. not_unfit _ nodes c.args.party c.args.from giver short c.in-Some.frame c.requires.led.seats there c.in-Some.ensures.some c.take_out.ensures.others c.take_out.ensures.rest
    old old here arrived.0 arrived.1 (refused_so c.in-Err.refusal _ unfit c.in-Err.ensures.unfit)
