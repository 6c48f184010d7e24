use Rattle.std.proofs.Common.{◌≤◌, ◌<◌, ◌+◌, ◌∙◌, length, refl, subst, arith}
use Rattle.sj_end.specs.declared.note.Line.{Line}
use Rattle.sj_core.specs.NodeWorld.{Redoes, file_in}
use Rattle.sj_core.specs.Replaying.{IsMisfitHere}
use Rattle.sj_core.specs.Views.{line_at}
use Rattle.sj_core.proofs.RedoLemmas.{led_first, led_next, misfit_from, reached_last}
use Rattle.sj_core.proofs.node_world.NodeWorld.replayed.Goals as goal

pub loop-done-init : goal.loop-done-init
loop-done-init c = record { led = led_first c.args.self c.args.lines.items c.requires.reached c.requires.none; file = refl }

pub loop-done-preserved : goal.loop-done-preserved
loop-done-preserved c =
    let kept = c.loop-done.invariant in
    let same = c.args.lines.ok in
    let lt : c.loop-done.done < length c.args.lines.items = omega (arith, c.loop-done-test.true, c.len-done-end.ensures, same) in
    record {
      led =
          led_next c.loop-done.self c.do_again.new.self c.args.lines.items c.loop-done.done c.index.result.now lt kept.led
          (subst (λ (l : Line). Redoes c.loop-done.self (line_at l) c.do_again.new.self) c.index.ensures c.in_default.ensures.ok);
      file = c.do_again.ensures.file ∙ kept.file;
    }

pub returns-in-Err-clause-misfit : goal.returns-in-Err-clause-misfit
returns-in-Err-clause-misfit c =
    let kept = c.loop-done.invariant in
    let same = c.args.lines.ok in
    let lt : c.loop-done.done < length c.args.lines.items = omega (arith, c.loop-done-test.true, c.len-done-end.ensures, same) in
    misfit_from c.loop-done.self (file_in c.args.self) c.args.lines.items c.loop-done.done (c.loop-done.done + 1) c.index.result.now c.in-Err.refusal kept.file lt refl kept.led
    (subst (λ (l : Line). IsMisfitHere c.loop-done.self (c.loop-done.done + 1) l c.in-Err.refusal) c.index.ensures c.in-Err.ensures.misfit)

pub returns-clause-reached : goal.returns-clause-reached
returns-clause-reached c =
    let kept = c.loop-done.invariant in
    let same = c.args.lines.ok in
    let last = c.loop-done.self in
    let all : length c.args.lines.items ≤ c.loop-done.done = omega (arith, c.loop-done-test.false, c.len-done-end.ensures, same) in
    reached_last last (record { alloc = last.alloc; kept = last.kept; nodes = last.nodes; history = c.args.lines }) c.args.lines.items c.loop-done.done all kept.led refl refl refl
