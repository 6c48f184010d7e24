use Rattle.std.proofs.Common.{◌∷◌, ap, length, refl, sym, ◌∙◌}
use Rattle.std.proofs.lemmas.List.{length-set}
use Rattle.std.proofs.lemmas.Option.{slice_get_read}
use Rattle.std.proofs.Math.ListN.{set}
use Rattle.sj_end.specs.Views.{frame_at}
use Rattle.sj_node.specs.Outs.{waiting_in}
use Rattle.sj_node.specs.Reading.{outs_of}
use Rattle.sj_end.specs.declared.note.Event.TheVariants as events
use Rattle.sj_core.proofs.DeliverLemmas.{delivered_as, lane_is, low_now, not_unfit}
use Rattle.sj_core.proofs.PutBackLemmas.{nothing_taken, put_back, refused_so}
use Rattle.sj_seats.proofs.ChairLemmas.{over_set, table_done}
use Rattle.sj_seats.proofs.DrainLemmas.{nothing_waits}
use Rattle.sj_seats.proofs.GoingLemmas.{delivery_redoes, moved_event, rests_by}
use Rattle.sj_seats.proofs.RunLemmas.{front_comes, low_clock}
use Rattle.sj_seats.specs.Played.{file_in}
use Rattle.sj_seats.proofs.played.PlayedWorld.deliver.Goals as goal

pub returns-in_default-clause-none : goal.returns-in_default-clause-none
returns-in_default-clause-none c =
    let self = c.args.self.now in
    let nodes = self.nodes.items in
    let giver = c.index_mut.result.now in
    let parties = c.requires.led.led.parties in
    let there = slice_get_read nodes (length nodes) c.args.from giver refl c.requires.origin c.index_mut.ensures.value in
    rests_by self _ (record { file = refl; table = refl; chairs = refl; opened = refl }) parties
    (nothing_taken (file_in self) nodes c.args.party c.args.from giver c.take_out.new.self parties.seats there
    c.in_default.ensures.none c.in_default.ensures.empty c.take_out.ensures.others c.take_out.ensures.rest)
    (over_set self.table nodes c.args.from c.take_out.new.self c.requires.origin parties.over (c.take_out.ensures.rest.table ∙ parties.over c.args.from giver there))

pub returns-in_default-clause-empty : goal.returns-in_default-clause-empty
returns-in_default-clause-empty c =
    let self = c.args.self.now in
    let nodes = self.nodes.items in
    let giver = c.index_mut.result.now in
    nothing_waits self c.args.party c.args.from giver (slice_get_read nodes (length nodes) c.args.from giver refl c.requires.origin c.index_mut.ensures.value) c.in_default.ensures.none

pub returns-in-Ok-clause-done : goal.returns-in-Ok-clause-done
returns-in-Ok-clause-done c =
    let self = c.args.self.now in
    let nodes = self.nodes.items in
    let giver = c.index_mut.result.now in
    let short = c.take_out.new.self in
    let old = c.index_mut-node.result.now in
    let parties = c.requires.led.led.parties in
    let there = slice_get_read nodes (length nodes) c.args.from giver refl c.requires.origin c.index_mut.ensures.value in
    let some = set nodes c.args.from short in
    let long = length-set nodes c.args.from short in
    let here = slice_get_read some (length nodes) c.args.party old (sym long) c.requires.there c.index_mut-node.ensures.value in
    let between = over_set self.table nodes c.args.from short c.requires.origin parties.over (c.take_out.ensures.rest.table ∙ parties.over c.args.from giver there) in
    delivery_redoes self _ (record { file = refl; table = refl; chairs = refl; opened = refl }) c.args.party c.args.from c.noted.result
    (delivered_as (file_in self) nodes c.args.party c.args.from giver short c.in-Some.frame parties.seats there
    c.in-Some.ensures.some c.take_out.ensures.others c.take_out.ensures.rest
    old c.noted.new.node here c.deliver.new.self c.noted.result c.noted.ensures.rest c.noted.ensures.entry c.in-Ok.ensures.ok)
    parties
    (over_set self.table some c.args.party c.noted.new.node (Rattle.std.proofs.lemmas.Option.slice_get_within some c.args.party old here) between
    (table_done old c.deliver.new.self c.noted.new.node _ _ _ _ c.in-Ok.ensures.ok c.noted.ensures.rest ∙ between c.args.party old here))

pub returns-in-Err-clause-err : goal.returns-in-Err-clause-err
returns-in-Err-clause-err c =
    let self = c.args.self.now in
    let nodes = self.nodes.items in
    let giver = c.index_mut.result.now in
    let short = c.take_out.new.self in
    let old = c.index_mut-node.result.now in
    let new = c.deliver.new.self in
    let back = c.index_mut-in-Err.result.now in
    let last = c.put_back.new.self in
    let parties = c.requires.led.led.parties in
    let there = slice_get_read nodes (length nodes) c.args.from giver refl c.requires.origin c.index_mut.ensures.value in
    let some = set nodes c.args.from short in
    let long = length-set nodes c.args.from short in
    let here = slice_get_read some (length nodes) c.args.party old (sym long) c.requires.there c.index_mut-node.ensures.value in
    let more = set some c.args.party new in
    let again = slice_get_read more (length nodes) c.args.from back (sym (length-set some c.args.party new ∙ long)) c.requires.origin c.index_mut-in-Err.ensures.value in
    let between = over_set self.table nodes c.args.from short c.requires.origin parties.over (c.take_out.ensures.rest.table ∙ parties.over c.args.from giver there) in
    let over = over_set self.table some c.args.party new (Rattle.std.proofs.lemmas.Option.slice_get_within some c.args.party old here) between (c.in-Err.ensures.err.table ∙ between c.args.party old here) in
    rests_by self _ (record { file = refl; table = refl; chairs = refl; opened = refl }) parties
    (put_back (file_in self) nodes c.args.party c.args.from giver short c.in-Some.frame parties.seats there
    c.in-Some.ensures.some c.take_out.ensures.others c.take_out.ensures.rest
    old new here c.in-Err.ensures.err back last again
    (c.put_back.ensures.own ∙ ap (λ f. frame_at f ∷ waiting_in (outs_of back) c.args.party) c.in-Err.ensures.back)
    c.put_back.ensures.others c.put_back.ensures.rest)
    (over_set self.table more c.args.from last (Rattle.std.proofs.lemmas.Option.slice_get_within more c.args.from back again) over (c.put_back.ensures.rest.table ∙ over c.args.from back again))

pub deliver-requires : goal.deliver-requires
deliver-requires c =
    let self = c.args.self.now in
    let nodes = self.nodes.items in
    let giver = c.index_mut.result.now in
    let short = c.take_out.new.self in
    let old = c.index_mut-node.result.now in
    let led = c.requires.led in
    let there = slice_get_read nodes (length nodes) c.args.from giver refl c.requires.origin c.index_mut.ensures.value in
    let here = slice_get_read (set nodes c.args.from short) (length nodes) c.args.party old (sym (length-set nodes c.args.from short)) c.requires.there c.index_mut-node.ensures.value in
    low_now (file_in self) nodes c.args.party c.args.from giver short c.in-Some.frame led.led.parties.seats there
    c.in-Some.ensures.some c.take_out.ensures.others c.take_out.ensures.rest old old here (low_clock self led.past led.led c.args.party)

pub without_memory-requires : goal.without_memory-requires
without_memory-requires c =
    let self = c.args.self.now in
    let nodes = self.nodes.items in
    let giver = c.index_mut.result.now in
    let short = c.take_out.new.self in
    let old = c.index_mut-node.result.now in
    let led = c.requires.led in
    let there = slice_get_read nodes (length nodes) c.args.from giver refl c.requires.origin c.index_mut.ensures.value in
    let here = slice_get_read (set nodes c.args.from short) (length nodes) c.args.party old (sym (length-set nodes c.args.from short)) c.requires.there c.index_mut-node.ensures.value in
    let lane = lane_is (file_in self) nodes c.args.party c.args.from giver short c.in-Some.frame led.led.parties.seats there c.in-Some.ensures.some c.take_out.ensures.others c.take_out.ensures.rest in
    let arrived = front_comes self led.past led.led c.args.party c.args.from _ _ lane in
    λ unfit. not_unfit (file_in self) nodes c.args.party c.args.from giver short c.in-Some.frame led.led.parties.seats there c.in-Some.ensures.some c.take_out.ensures.others c.take_out.ensures.rest
    old old here arrived.0 arrived.1 (refused_so c.in-Err.refusal _ unfit c.in-Err.ensures.unfit)

pub returns-in-Ok-clause-event : goal.returns-in-Ok-clause-event
returns-in-Ok-clause-event c =
    let self = c.args.self.now in
    let nodes = self.nodes.items in
    let giver = c.index_mut.result.now in
    let short = c.take_out.new.self in
    let old = c.index_mut-node.result.now in
    let parties = c.requires.led.led.parties in
    let there = slice_get_read nodes (length nodes) c.args.from giver refl c.requires.origin c.index_mut.ensures.value in
    let here = slice_get_read (set nodes c.args.from short) (length nodes) c.args.party old (sym (length-set nodes c.args.from short)) c.requires.there c.index_mut-node.ensures.value in
    moved_event (file_in self) nodes c.args.party (events.Deliver c.args.from) c.noted.result _
    (delivered_as (file_in self) nodes c.args.party c.args.from giver short c.in-Some.frame parties.seats there
    c.in-Some.ensures.some c.take_out.ensures.others c.take_out.ensures.rest
    old c.noted.new.node here c.deliver.new.self c.noted.result c.noted.ensures.rest c.noted.ensures.entry c.in-Ok.ensures.ok)
