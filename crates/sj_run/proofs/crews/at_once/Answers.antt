use Rattle.std.proofs.Common.{◌≡◌, ◌∙◌, length, drop, List, arith, sym, ap, subst}
use Rattle.std.specs.Prelude.{slice_get}
use Rattle.sj_steal.specs.Runs.{Each2}
use Rattle.sj_work.specs.declared.worker.Worker.{Worker}
use Rattle.sj_work.specs.Worked.{Worked}
use Rattle.sj_run.proofs.EachLemmas.{each2_from}
use Rattle.sj_run.proofs.WorkedLemmas.{take_front}
use Rattle.sj_run.proofs.crews.at_once.Goals as goal

pub returns : goal.returns
returns g c =
    let old = c.args.workers.items in
    let new = c.work_all.new.workers in
    let as_many : length new ≡ length old = c.work_all.ensures.length ∙ ap length c.deref_mut.ensures.value in
    let whole = take_front new (drop (length new) old) c.args.workers.len (omega (arith, as_many, c.args.workers.ok)) in
    subst (Each2 (Worked g.O.OutLane g.I.InLane c.args.looks) old)
    (sym whole)
    (each2_from (Worked g.O.OutLane g.I.InLane c.args.looks) old new as_many
    (λ p a b before there. c.work_all.ensures.each p a b (ap (λ (ws : List (Worker g.row.O.Denot g.row.I.Denot)). slice_get ws p) c.deref_mut.ensures.value ∙ before) there))
