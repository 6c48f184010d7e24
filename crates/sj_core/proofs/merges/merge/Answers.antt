use Rattle.std.proofs.Common.{◌≡◌, ◌∙◌, ◌++◌, List, [], drop, arith, inl, inr, sym, ap}
use Rattle.std.specs.Prelude.{◌⊎◌}
use Rattle.std.proofs.lemmas.List.{take_rest, drop_all}
use Rattle.sj_end.specs.declared.note.Line.{Line}
use Rattle.sj_core.proofs.MergeStepLemmas.{front_pushed, back_pushed, all_pushed}
use Rattle.sj_core.proofs.merges.merge.Goals as goal
use Rattle.sj_core.proofs.merges.merge.Goals.{then-loop-i-test+else-j-back, else-loop-i-test}

pub loop-i-preserved-then-comes_before : goal.loop-i-preserved-then-comes_before
loop-i-preserved-then-comes_before c = record {
  front_in = omega arith;
  back_in = omega arith;
  merging = rw c.in_ok-push.ensures.items (front_pushed _ _ c.loop-i.lines.items c.args.front.now c.args.back.now c.loop-i.i c.loop-i.j _ (omega arith) (omega arith) c.loop-i.invariant.merging
      (c.comes_before.ensures.0 c.if-comes_before.true));
}

pub loop-i-preserved : goal.loop-i-preserved
loop-i-preserved c = record {
  front_in = omega arith;
  back_in = omega arith;
  merging = rw c.in_ok-push-2.ensures.items (back_pushed _ _ c.loop-i.lines.items c.args.front.now c.args.back.now c.loop-i.i c.loop-i.j _ (omega arith) (omega arith) c.loop-i.invariant.merging
      (λ before. let was = c.comes_before.ensures.1 before in cc (sym c.if-comes_before.false ∙ was)));
}

pub returns : goal.returns
returns c =
    let all : c.extend_from_slice-2.new.self.items ≡ c.loop-i.lines.items ++ drop c.loop-i.i c.args.front.now ++ drop c.loop-i.j c.args.back.now =
    c.in_ok-extend_from_slice-2.ensures.items ∙ ap (λ (ls : List Line). c.extend_from_slice.new.self.items ++ ls) (take_rest c.args.back.now c.loop-i.j)
    ∙ ap (λ (ls : List Line). ls ++ drop c.loop-i.j c.args.back.now) (c.in_ok-extend_from_slice.ensures.items ∙ ap (λ (ls : List Line). c.loop-i.lines.items ++ ls) (take_rest c.args.front.now c.loop-i.i)) in
    let end : (drop c.loop-i.i c.args.front.now ≡ []) ⊎ (drop c.loop-i.j c.args.back.now ≡ []) =
    elim c.loop-i-test.branch [
      | then-loop-i-test+else-j-back w ↦ inr (drop_all c.loop-i.j c.args.back.now (omega (arith, w.if-j-back)))
      | else-loop-i-test w ↦ inl (drop_all c.loop-i.i c.args.front.now (omega (arith, w.loop-i-test)))
    ] in
    rw all (all_pushed _ _ c.loop-i.lines.items (drop c.loop-i.i c.args.front.now) (drop c.loop-i.j c.args.back.now) c.loop-i.invariant.merging end)
