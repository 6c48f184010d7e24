use Rattle.std.proofs.Common.{◌≡◌}
use Rattle.sj_end.specs.Views.{frame_at}
use Rattle.sj_rules.specs.Mapped.{frame_with}
use Rattle.sj_rules.specs.NodeRun.{Came}
use Rattle.sj_table.specs.Spots.{place_in}
use Rattle.sj_node.specs.Reading.{table_of}
use Rattle.sj_work.proofs.NodeLemmas.{came_stepped}
use Rattle.sj_engine.specs.Redone.{IsLast, IsNoDelivery, IsOther, Redone}
use Rattle.sj_engine.specs.declared.refusal.RedoRefusal.TheVariants as misfits
use Rattle.sj_engine.proofs.RedoLemmas.{err_then, no_delivery, ok_then, redone}
use Rattle.sj_engine.proofs.redo.redo_delivery.Goals as goal

pub returns-in-Ok-clause-redone : goal.returns-in-Ok-clause-redone
returns-in-Ok-clause-redone c =
    let old = c.args.node.now in
    let new = c.deliver.new.self in
    let entry = c.args.entry.now in
    let deed = Came c.args.from (frame_with (place_in (table_of old)) (frame_at c.args.frame)) in
    ok_then (IsLast new entry) (Redone old new deed entry) c.last.result (redone old new deed entry (came_stepped old new c.args.from (frame_at c.args.frame) c.in-Ok.ensures.ok)) c.last.ensures.last

pub returns-in-Ok-clause-misfit : goal.returns-in-Ok-clause-misfit
returns-in-Ok-clause-misfit c =
    let old = c.args.node.now in
    let new = c.deliver.new.self in
    let entry = c.args.entry.now in
    err_then (IsOther new entry) (λ e. e ≡ misfits.Misfit → IsNoDelivery old c.args.from (frame_at c.args.frame) entry) c.last.result
    (no_delivery old new c.args.from (frame_at c.args.frame) entry c.in-Ok.ensures.ok) c.last.ensures.other
