use Rattle.std.proofs.Common.{sym, subst}
use Rattle.sj_steal.specs.Calls.{Leaves}
use Rattle.sj_steal.specs.Runs.{Each2}
use Rattle.sj_steal.proofs.TaskLemmas.{left_each, tasks_rise}
use Rattle.sj_steal.proofs.calls.call_each.Goals as goal

pub returns : goal.returns
returns g c =
    let call = c.args.call.now in
    let values = c.args.values.items in
    let tasks = c.in_ok-tasks.tasks.items in
    let rise = tasks_rise call values tasks c.in_ok-tasks.ensures in
    let ran = c.jobs_in_order_stay.ensures tasks c.in-Ok.done.items rise c.in-Ok.ensures.ok in
    subst (Each2 (Leaves g.F.Fn call) values) (sym c.in_ok-values.ensures)
    (left_each g.F.Fn call values tasks c.in-Ok.done.items c.in_ok-tasks.ensures.each ran)
