use Rattle.std.proofs.Common.{sym, subst}
use Rattle.std.specs.List.{AllByRecursion}
use Rattle.sj_wire.specs.Lawful.{HasSide}
use Rattle.sj_wire.proofs.LawfulLemmas.{of_both, of_front, of_back}
use Rattle.sj_wire.proofs.lawful.has_sides.Goals as goal

pub returns-then-all_have_sides : goal.returns-then-all_have_sides
returns-then-all_have_sides c =
    let is = c.as_slices.ensures.items in let front = c.all_have_sides.ensures in let back = c.all_have_sides-then-all_have_sides.ensures in (
      λ yes. subst (AllByRecursion HasSide) is (of_both _ _ (front.0 c.if-all_have_sides.true) (back.0 yes)),
      λ all. back.1 (of_back c.as_slices.result.0.now _ (subst (AllByRecursion HasSide) (sym is) all)),
    )

pub returns-else-all_have_sides : goal.returns-else-all_have_sides
returns-else-all_have_sides c =
    let is = c.as_slices.ensures.items in let front = c.all_have_sides.ensures in (
      λ yes. let no = c.if-all_have_sides.false in cc,
      λ all. front.1 (of_front _ c.as_slices.result.1.now (subst (AllByRecursion HasSide) (sym is) all)),
    )
