use Rattle.std.proofs.Common.{◌≤◌, ◌<◌, ◌+◌, length, refl, subst, arith}
use Rattle.sj_core.specs.Views.{line_at}
use Rattle.sj_end.specs.declared.note.Line.{Line}
use Rattle.sj_seats.specs.Played.{Redoes, file_in}
use Rattle.sj_seats.specs.Replaying.{IsFoundHere, IsMisfitHere}
use Rattle.sj_seats.specs.Core.{is_seat}
use Rattle.sj_seats.specs.Played.{chairs_in, opened_in}
use Rattle.sj_seats.specs.declared.played.PlayedWorld.{PlayedWorld}
use Rattle.sj_seats.proofs.DrainLemmas.{keeps_later, keeps_none}
use Rattle.sj_seats.proofs.GoingLemmas.{led_still}
use Rattle.sj_seats.proofs.ListingLemmas.{rests_listed}
use Rattle.sj_seats.proofs.ReplayLemmas.{led_first, led_next, misfit_from, reached_last}
use Rattle.sj_seats.proofs.played.PlayedWorld.replayed.Goals as goal

pub loop-done-init : goal.loop-done-init
loop-done-init c = record { led = led_first c.args.self c.args.lines.items c.requires.reached c.requires.none; keeps = keeps_none c.args.self }

pub loop-done-preserved : goal.loop-done-preserved
loop-done-preserved c =
    let kept = c.loop-done.invariant in
    let same = c.args.lines.ok in
    let lt : c.loop-done.done < length c.args.lines.items = omega (arith, c.loop-done-test.true, c.len-done-end.ensures, same) in
    let redone = subst (λ (l : Line). Redoes c.loop-done.self (line_at l) c.do_again.new.self) c.index.ensures c.in_default.ensures.ok in
    record {
      led = led_next c.loop-done.self c.do_again.new.self c.args.lines.items c.loop-done.done c.index.result.now lt kept.led redone;
      keeps = keeps_later c.args.self c.loop-done.self c.do_again.new.self kept.keeps redone.keeps;
    }

pub returns-in-Err-clause-misfit : goal.returns-in-Err-clause-misfit
returns-in-Err-clause-misfit c =
    let kept = c.loop-done.invariant in
    let same = c.args.lines.ok in
    let lt : c.loop-done.done < length c.args.lines.items = omega (arith, c.loop-done-test.true, c.len-done-end.ensures, same) in
    misfit_from c.loop-done.self (file_in c.args.self) (is_seat (chairs_in c.args.self)) (opened_in c.args.self) c.args.lines.items c.loop-done.done (c.loop-done.done + 1) c.index.result.now c.in-Err.refusal kept.keeps.file kept.keeps.seats kept.keeps.opened lt refl kept.led
    (subst (λ (l : Line). IsMisfitHere (c.loop-done.done + 1) l c.in-Err.refusal) c.index.ensures c.in-Err.ensures.misfit)
    (subst (λ (l : Line). IsFoundHere c.loop-done.self l c.in-Err.refusal) c.index.ensures c.in-Err.ensures.found)

pub returns-clause-reached : goal.returns-clause-reached
returns-clause-reached c =
    let kept = c.loop-done.invariant in
    let same = c.args.lines.ok in
    let last = c.loop-done.self in
    let all : length c.args.lines.items ≤ c.loop-done.done = omega (arith, c.loop-done-test.false, c.len-done-end.ensures, same) in
    let all_listed : PlayedWorld = record { alloc = last.alloc; kept = last.kept; table = last.table; nodes = last.nodes; chairs = last.chairs; opened = last.opened; history = c.args.lines } in
    reached_last last all_listed c.args.lines.items c.loop-done.done all kept.led
    (λ past l. led_still last all_listed past l (rests_listed last all_listed l.parties (record { file = refl; table = refl; nodes = refl; chairs = refl; opened = refl }))) refl
