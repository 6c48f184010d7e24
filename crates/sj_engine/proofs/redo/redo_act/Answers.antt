use Rattle.std.proofs.Common.{◌≡◌}
use Rattle.sj_rules.specs.NodeRun.{Acted}
use Rattle.sj_work.proofs.NodeLemmas.{act_stepped}
use Rattle.sj_engine.specs.Redone.{IsLast, IsNoAct, IsOther, Redone}
use Rattle.sj_engine.specs.declared.refusal.RedoRefusal.TheVariants as misfits
use Rattle.sj_engine.proofs.RedoLemmas.{err_then, no_act, ok_then, redone}
use Rattle.sj_engine.proofs.redo.redo_act.Goals as goal

pub returns-in-Ok-clause-redone : goal.returns-in-Ok-clause-redone
returns-in-Ok-clause-redone c =
    let old = c.args.node.now in
    let new = c.act.new.self in
    let entry = c.args.entry.now in
    ok_then (IsLast new entry) (Redone old new Acted entry) c.last.result (redone old new Acted entry (act_stepped old new c.in-Ok.ensures.ok)) c.last.ensures.last

pub returns-in-Ok-clause-misfit : goal.returns-in-Ok-clause-misfit
returns-in-Ok-clause-misfit c =
    let old = c.args.node.now in
    let new = c.act.new.self in
    let entry = c.args.entry.now in
    err_then (IsOther new entry) (λ e. e ≡ misfits.Misfit → IsNoAct old entry) c.last.result (no_act old new entry c.in-Ok.ensures.ok) c.last.ensures.other
