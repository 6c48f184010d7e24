use Rattle.std.proofs.Common.{◌≡◌, suc, ◌++◌, [], ◌∷◌, length, length-append, sym, ap, refl, subst, arith}
use Rattle.sj_steal.specs.Tasks.{AreTasks, IsTaskAt}
use Rattle.sj_steal.proofs.RunLemmas.{each2_length}
use Rattle.sj_steal.proofs.TaskLemmas.{no_tasks, one_more}
use Rattle.sj_steal.proofs.calls.tasks_of.Goals as goal

pub loop-value-init : goal.loop-value-init
loop-value-init g c =
    let whole = ap length c.into_iter-value-iterator.ensures.into_iter_gives.0 in (
      subst (AreTasks c.args.call.now []) (sym c.new-tasks.ensures.items) (no_tasks c.args.call.now),
      omega (arith, whole),
    )

pub overflow_cast-number : goal.overflow_cast-number
overflow_cast-number g c =
    let many = each2_length (IsTaskAt c.args.call.now) c.loop-value.yielded c.loop-value.tasks.items c.loop-value.invariant.0.each in
    let left : length c.loop-value.value-iterator.rest.items ≡ suc (length c.next.new.self.rest.items) = ap length c.in-Some.ensures.steps.0 in
    omega (arith, many, left, c.loop-value.invariant.1, c.requires.few, c.len-number.ensures, c.loop-value.tasks.ok)

pub loop-value-preserved : goal.loop-value-preserved
loop-value-preserved g c =
    let yielded = c.loop-value.yielded in
    let tasks = c.loop-value.tasks.items in
    let value = c.in-Some.value in
    let number : c.len-number.result ≡ length tasks = omega (arith, c.len-number.ensures, c.loop-value.tasks.ok) in
    let left : length c.loop-value.value-iterator.rest.items ≡ suc (length c.next.new.self.rest.items) = ap length c.in-Some.ensures.steps.0 in
    let more = length-append yielded (value ∷ []) in (
      subst (AreTasks c.args.call.now (yielded ++ value ∷ [])) (sym c.in_ok-push.ensures.items)
          (one_more c.args.call.now yielded tasks value _ c.loop-value.invariant.0 (refl, refl) number),
      omega (arith, more, left, c.loop-value.invariant.1),
    )
