use Rattle.std.proofs.Common.{Err, ap, length, refl, ◌∙◌}
use Rattle.std.proofs.lemmas.Option.{slice_get_read}
use Rattle.sj_end.specs.declared.note.Event.TheVariants as events
use Rattle.sj_core.proofs.StepLemmas.{acted_as, rests}
use Rattle.sj_seats.proofs.AnswerLemmas.{if_error, if_none, none_done, ok_none}
use Rattle.sj_seats.proofs.ChairLemmas.{over_set, table_done}
use Rattle.sj_seats.proofs.DrainLemmas.{still_where}
use Rattle.sj_seats.proofs.GoingLemmas.{act_redoes, moved_event, rests_by}
use Rattle.sj_core.proofs.StopLemmas.{error_is}
use Rattle.sj_seats.proofs.RunLemmas.{low_node}
use Rattle.sj_seats.proofs.UnfitLemmas.{not_unfit}
use Rattle.sj_seats.specs.Played.{file_in}
use Rattle.sj_seats.proofs.played.PlayedWorld.act.Goals as goal

pub act-requires : goal.act-requires
act-requires c =
    let nodes = c.args.self.now.nodes.items in
    let old = c.index_mut-node.result.now in
    let led = c.requires.led in
    record { clock = low_node c.args.self.now led.past led.led c.args.party old (slice_get_read nodes (length nodes) c.args.party old refl c.requires.there c.index_mut-node.ensures.value) }

pub returns-in-Ok-clause-done : goal.returns-in-Ok-clause-done
returns-in-Ok-clause-done c =
    let self = c.args.self.now in
    let nodes = self.nodes.items in
    let old = c.index_mut-node.result.now in
    let parties = c.requires.led.led.parties in
    let there = slice_get_read nodes (length nodes) c.args.party old refl c.requires.there c.index_mut-node.ensures.value in
    let moves = acted_as (file_in self) nodes c.args.party old c.noted.new.node parties.seats there c.act.new.self c.noted.result c.noted.ensures.rest c.noted.ensures.entry c.in-Ok.ensures.ok in
    act_redoes self _ (record { file = refl; table = refl; chairs = refl; opened = refl }) c.args.party c.noted.result c.requires.own moves parties
    (over_set self.table nodes c.args.party c.noted.new.node c.requires.there parties.over (table_done old c.act.new.self c.noted.new.node _ _ _ _ c.in-Ok.ensures.ok c.noted.ensures.rest ∙ parties.over c.args.party old there))

pub returns-in-Err-clause-done : goal.returns-in-Err-clause-done
returns-in-Err-clause-done c = none_done c.stopped.result _ c.stopped.ensures.none

pub returns-in-Err-clause-none : goal.returns-in-Err-clause-none
returns-in-Err-clause-none c =
    let self = c.args.self.now in
    let nodes = self.nodes.items in
    let old = c.index_mut-node.result.now in
    let parties = c.requires.led.led.parties in
    let there = slice_get_read nodes (length nodes) c.args.party old refl c.requires.there c.index_mut-node.ensures.value in
    if_none c.stopped.result _
    (rests_by self _ (record { file = refl; table = refl; chairs = refl; opened = refl }) parties
    (rests (file_in self) nodes c.args.party old c.act.new.self parties.seats there c.in-Err.ensures.err)
    (over_set self.table nodes c.args.party c.act.new.self c.requires.there parties.over (c.in-Err.ensures.err.table ∙ parties.over c.args.party old there)))

pub returns-in-Err-clause-err : goal.returns-in-Err-clause-err
returns-in-Err-clause-err c =
    let self = c.args.self.now in
    let nodes = self.nodes.items in
    let old = c.index_mut-node.result.now in
    let parties = c.requires.led.led.parties in
    let there = slice_get_read nodes (length nodes) c.args.party old refl c.requires.there c.index_mut-node.ensures.value in
    if_error c.stopped.result _
    (rests_by self _ (record { file = refl; table = refl; chairs = refl; opened = refl }) parties
    (rests (file_in self) nodes c.args.party old c.act.new.self parties.seats there c.in-Err.ensures.err)
    (over_set self.table nodes c.args.party c.act.new.self c.requires.there parties.over (c.in-Err.ensures.err.table ∙ parties.over c.args.party old there)))

pub returns-in-Err-clause-still : goal.returns-in-Err-clause-still
returns-in-Err-clause-still c =
    let self = c.args.self.now in
    let nodes = self.nodes.items in
    let old = c.index_mut-node.result.now in
    let there = slice_get_read nodes (length nodes) c.args.party old refl c.requires.there c.index_mut-node.ensures.value in
    ok_none c.stopped.result _ _ c.stopped.ensures.stop
    (λ stop. still_where self c.args.party old c.in-Err.halt there c.requires.own stop
    (λ h. c.in-Err.ensures.ended.0 (ap Err h)) (λ h. c.in-Err.ensures.at_limit.0 (ap Err h)) (λ h. c.in-Err.ensures.waits.0 (ap Err h)))

pub stopped-requires : goal.stopped-requires
stopped-requires c =
    let self = c.args.self.now in
    let nodes = self.nodes.items in
    let old = c.index_mut-node.result.now in
    let led = c.requires.led in
    let there = slice_get_read nodes (length nodes) c.args.party old refl c.requires.there c.index_mut-node.ensures.value in
    λ unfit. not_unfit self led.past led.led c.args.party old there c.requires.own c.in-Err.halt
    (λ h. error_is _ _ (c.in-Err.ensures.ended.1 h)) (λ h. error_is _ _ (c.in-Err.ensures.at_limit.1 h)) (λ h. error_is _ _ (c.in-Err.ensures.waits.1 h))
    (λ h. c.in-Err.ensures.unfit (ap Err h)) unfit

pub returns-in-Ok-clause-event : goal.returns-in-Ok-clause-event
returns-in-Ok-clause-event c =
    let self = c.args.self.now in
    let nodes = self.nodes.items in
    let old = c.index_mut-node.result.now in
    let parties = c.requires.led.led.parties in
    let there = slice_get_read nodes (length nodes) c.args.party old refl c.requires.there c.index_mut-node.ensures.value in
    moved_event (file_in self) nodes c.args.party events.Act c.noted.result _
    (acted_as (file_in self) nodes c.args.party old c.noted.new.node parties.seats there c.act.new.self c.noted.result c.noted.ensures.rest c.noted.ensures.entry c.in-Ok.ensures.ok)

pub returns-in-Err-clause-event : goal.returns-in-Err-clause-event
returns-in-Err-clause-event c = none_done c.stopped.result _ c.stopped.ensures.none
