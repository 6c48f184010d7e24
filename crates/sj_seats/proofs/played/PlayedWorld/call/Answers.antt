use Rattle.std.proofs.Common.{◌∙◌, ap, length, refl, sym, Some}
use Rattle.std.proofs.lemmas.Option.{slice_get_read}
use Rattle.sj_seats.proofs.AnswerLemmas.{done_so, error_so, none_so}
use Rattle.sj_seats.proofs.CallingLemmas.{call_makes}
use Rattle.sj_seats.proofs.MakingLemmas.{make_finds, make_redoes}
use Rattle.sj_seats.proofs.SittingLemmas.{call_rests}
use Rattle.sj_end.specs.Lines.{note_seen}
use Rattle.sj_seats.specs.Calls.{end_in}
use Rattle.sj_seats.specs.Played.{opened_in}
use Rattle.sj_seats.proofs.RunLemmas.{low_node}
use Rattle.sj_seats.proofs.WishLemmas.{call_told_as}
use Rattle.sj_seats.proofs.played.PlayedWorld.call.Goals as goal

pub make-requires-clause-clock : goal.make-requires-clause-clock
make-requires-clause-clock c =
    let self = c.args.self.now in
    let nodes = self.nodes.items in
    let old = c.index_mut-in-Some-index_mut.result.now in
    let led = c.requires.led in
    low_node self led.past led.led c.args.party old (slice_get_read nodes (length nodes) c.args.party old refl c.requires.there c.index_mut-in-Some-index_mut.ensures.value)

pub returns-in-Some-index_mut-clause-done : goal.returns-in-Some-index_mut-clause-done
returns-in-Some-index_mut-clause-done c =
    let self = c.args.self.now in
    let nodes = self.nodes.items in
    let chairs = self.chairs.items in
    let old = c.index_mut-in-Some-index_mut.result.now in
    let parties = c.requires.led.led.parties in
    let there = slice_get_read nodes (length nodes) c.args.party old refl c.requires.there c.index_mut-in-Some-index_mut.ensures.value in
    let sits = slice_get_read chairs (length nodes) c.args.party c.index_mut.result.now (sym parties.count) c.requires.there c.index_mut.ensures.value ∙ ap Some c.in-Some-index_mut.is in
    done_so c.make.result _ _
    (λ e x same.
    let made = call_makes self.table (opened_in self c.args.party) old c.make.new.node c.in-Some-index_mut.chair c.make.new.chair _ e (parties.over c.args.party old there) x in
    make_redoes self c.args.party old c.make.new.node c.in-Some-index_mut.chair c.make.new.chair _ e (opened_in self c.args.party) made parties there sits _ refl refl refl refl refl refl)
    c.make.ensures.done

pub returns-in-Some-index_mut-clause-none : goal.returns-in-Some-index_mut-clause-none
returns-in-Some-index_mut-clause-none c =
    let self = c.args.self.now in
    let nodes = self.nodes.items in
    let chairs = self.chairs.items in
    let old = c.index_mut-in-Some-index_mut.result.now in
    let parties = c.requires.led.led.parties in
    let there = slice_get_read nodes (length nodes) c.args.party old refl c.requires.there c.index_mut-in-Some-index_mut.ensures.value in
    let sits = slice_get_read chairs (length nodes) c.args.party c.index_mut.result.now (sym parties.count) c.requires.there c.index_mut.ensures.value ∙ ap Some c.in-Some-index_mut.is in
    none_so c.make.result _ _
    (λ x. call_rests self _ c.args.party old c.make.new.node c.in-Some-index_mut.chair c.make.new.chair x parties there sits refl refl refl refl refl) c.make.ensures.none

pub returns-in-Some-index_mut-clause-err : goal.returns-in-Some-index_mut-clause-err
returns-in-Some-index_mut-clause-err c =
    let self = c.args.self.now in
    let nodes = self.nodes.items in
    let chairs = self.chairs.items in
    let old = c.index_mut-in-Some-index_mut.result.now in
    let parties = c.requires.led.led.parties in
    let there = slice_get_read nodes (length nodes) c.args.party old refl c.requires.there c.index_mut-in-Some-index_mut.ensures.value in
    let sits = slice_get_read chairs (length nodes) c.args.party c.index_mut.result.now (sym parties.count) c.requires.there c.index_mut.ensures.value ∙ ap Some c.in-Some-index_mut.is in
    error_so c.make.result _ _
    (λ x. call_rests self _ c.args.party old c.make.new.node c.in-Some-index_mut.chair c.make.new.chair x parties there sits refl refl refl refl refl) c.make.ensures.err

pub returns-in-Some-index_mut-clause-found : goal.returns-in-Some-index_mut-clause-found
returns-in-Some-index_mut-clause-found c =
    let self = c.args.self.now in
    let nodes = self.nodes.items in
    let chairs = self.chairs.items in
    let old = c.index_mut-in-Some-index_mut.result.now in
    let parties = c.requires.led.led.parties in
    let there = slice_get_read nodes (length nodes) c.args.party old refl c.requires.there c.index_mut-in-Some-index_mut.ensures.value in
    let sits = slice_get_read chairs (length nodes) c.args.party c.index_mut.result.now (sym parties.count) c.requires.there c.index_mut.ensures.value ∙ ap Some c.in-Some-index_mut.is in
    done_so c.make.result _ _
    (λ e x asked whose act noted.
    let made = call_makes self.table (opened_in self c.args.party) old c.make.new.node c.in-Some-index_mut.chair c.make.new.chair _ e (parties.over c.args.party old there) x in
    make_finds self c.args.party old c.make.new.node c.in-Some-index_mut.chair c.make.new.chair _ e (opened_in self c.args.party) made parties there sits asked whose act
    (call_told_as (opened_in self c.args.party (end_in asked.entry.note)) asked.entry.note (note_seen c.args.note) c.in-Some.wish noted c.in-Some.ensures))
    c.make.ensures.done
