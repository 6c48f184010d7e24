use Rattle.std.proofs.Common.{◌≡◌, false, length, is_some, unwrap_or, Option, None, ap, refl, sym, ◌∙◌}
use Rattle.std.proofs.lemmas.Option.{slice_get_read}
use Rattle.sj_core.specs.Views.{event_at, line_at, line_with}
use Rattle.sj_seats.specs.Core.{is_seat}
use Rattle.sj_seats.specs.declared.played.Chair.{Chair}
use Rattle.sj_seats.proofs.AnswerLemmas.{done_both, done_so}
use Rattle.sj_seats.proofs.GoingLemmas.{act_finds, delivery_finds}
use Rattle.sj_seats.proofs.played.PlayedWorld.happen.Goals as goal

pub returns-in-Deliver-clause-found : goal.returns-in-Deliver-clause-found
returns-in-Deliver-clause-found c =
    let self = c.args.self.now in
    let line = line_at c.args.line.now in
    done_both c.deliver.result _ _ _
    (λ e redone is. delivery_finds self c.deliver.new.self (line_with c.args.line.now.party e) line redone refl c.in-Deliver.from is (ap event_at c.in-Deliver.is))
    c.deliver.ensures.done c.deliver.ensures.event

pub returns-then-is_some-clause-found : goal.returns-then-is_some-clause-found
returns-then-is_some-clause-found c =
    done_so c.call.result _ _ (λ e found. found (line_at c.args.line.now) refl (ap event_at c.in-Act.is) refl) c.call.ensures.found

pub returns-else-is_some-clause-found : goal.returns-else-is_some-clause-found
returns-else-is_some-clause-found c =
    let self = c.args.self.now in
    let line = line_at c.args.line.now in
    let chairs = self.chairs.items in
    let sits = slice_get_read chairs (length self.nodes.items) c.args.line.now.party c.index.result.now (sym c.requires.led.led.parties.count) c.requires.there c.index.ensures in
    let own : is_seat chairs c.args.line.now.party ≡ false = ap (λ (o : Option (Option Chair)). is_some (unwrap_or o None)) sits ∙ sym c.is_some.ensures ∙ c.if-is_some.false in
    done_both c.act.result _ _ _
    (λ e redone is. act_finds self c.act.new.self (line_with c.args.line.now.party e) line redone refl own is (ap event_at c.in-Act.is))
    c.act.ensures.done c.act.ensures.event
