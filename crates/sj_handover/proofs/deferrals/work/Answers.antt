use Rattle.std.proofs.Common.{[], map}
use Rattle.sj_end.specs.Views.{post_at}
use Rattle.sj_handover.proofs.WorkLemmas.{nothing_sent, then_false, then_true}
use Rattle.sj_handover.proofs.deferrals.work.Goals as goal

pub returns-then-branch-clause-ok : goal.returns-then-branch-clause-ok
returns-then-branch-clause-ok c =
    let row = then_true c.in_ok-work_carry-in-Carry.field-0 _ c.if-branch.true c.in_ok-work_carry-in-Carry.ensures.ok in
    record { sent = []; row = rw (c.in-Carry.is) (row c.in-Carry.to); posts = nothing_sent (map post_at c.args.posts.now.items) }

pub returns-else-branch-clause-unfit : goal.returns-else-branch-clause-unfit
returns-else-branch-clause-unfit c =
    let row = then_false c.in_ok-work_carry-in-Carry.field-0 _ c.if-branch.false c.in_ok-work_carry-in-Carry.ensures.unfit in
    rw (c.in-Carry.is) (row c.in-Carry.to)

pub returns-then-work_fin-clause-ok : goal.returns-then-work_fin-clause-ok
returns-then-work_fin-clause-ok c =
    let row = then_true c.work_fin.result _ c.if-work_fin.true c.work_fin.ensures.ok in
    record { sent = []; row = rw (c.in-Fin.is) (row c.in-Fin.to); posts = nothing_sent (map post_at c.args.posts.now.items) }

pub returns-else-work_fin-clause-unfit : goal.returns-else-work_fin-clause-unfit
returns-else-work_fin-clause-unfit c =
    let row = then_false c.work_fin.result _ c.if-work_fin.false c.work_fin.ensures.unfit in
    rw (c.in-Fin.is) (row c.in-Fin.to)

pub returns-then-branch-2-clause-ok : goal.returns-then-branch-2-clause-ok
returns-then-branch-2-clause-ok c =
    let works = then_true c.in_ok-work_signal-in-Signal.field-0 _ c.if-branch-2.true c.in_ok-work_signal-in-Signal.ensures.ok in
    record { sent = works.sent; row = rw (c.in-Signal.is) (works.row c.in-Signal.to c.args.untaken.now.items); posts = works.posts }

pub returns-else-branch-2-clause-unfit : goal.returns-else-branch-2-clause-unfit
returns-else-branch-2-clause-unfit c =
    let row = then_false c.in_ok-work_signal-in-Signal.field-0 _ c.if-branch-2.false c.in_ok-work_signal-in-Signal.ensures.unfit in
    rw (c.in-Signal.is) (row c.in-Signal.to c.args.untaken.now.items)
