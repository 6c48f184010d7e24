use Rattle.std.proofs.Common.{Some, sym, ap, subst, ◌∙◌}
use Rattle.sj_engine.specs.Batch.{StopsBy}
use Rattle.sj_engine.specs.declared.in_lane.ByteIn.{ByteIn}
use Rattle.sj_engine.specs.declared.out_lane.ByteOut.{ByteOut}
use Rattle.sj_lane.specs.declared.lane.Lanes.{Lanes}
use Rattle.sj_work.specs.Worked.{kept_stop}
use Rattle.sj_work.specs.declared.worker.Stop.{Stop}
use Rattle.sj_remote_run.specs.Stuck.{IsStuck}
use Rattle.sj_remote_run.proofs.CauseLemmas.{err_as}
use Rattle.sj_remote_run.proofs.StuckLemmas.{inside_stuck, stop_stuck}
use Rattle.sj_remote_run.specs.Posts.{GoesOut}
use Rattle.sj_remote_run.proofs.player.Player.go.Goals as goal

pub returns-clause-goes : goal.returns-clause-goes
returns-clause-goes c =
    let b = c.batches.ensures.rounds in
    record {
      from = c.new-worker.result;
      to = c.batches.new.worker;
      stop = c.in-Ok.stop;
      lost = b.0;
      loses = b.1;
      node = c.new-worker.ensures.node;
      lanes = c.new-worker.ensures.lanes;
      rounds = b.2;
      sent = c.in-Ok.ensures.sent;
      stopped = c.in-Ok.ensures.stop;
      finished = c.finished.result;
      stands = sym c.in_ok-outcome.ensures.outcome;
      ended = c.finished.ensures.0;
      apart = c.into_parts-lanes.result.1;
      taken = c.into_parts-lanes.ensures.node;
      taken_out = c.push_all.ensures.node;
      goes_out = subst (λ (l : Lanes ByteOut ByteIn). GoesOut l.outs.items c.into_parts-lanes.result.1 c.push_all.new.lanes.outs.items c.push_all.new.node) c.into_parts-lanes.ensures.lanes
          c.in_ok-push_all.ensures.out;
      notes = sym c.into_parts-lanes.ensures.log;
      empty = c.push_all.ensures.node.log ∙ c.into_parts-lanes.ensures.none;
    }

pub returns-in-Err-clause-refused : goal.returns-in-Err-clause-refused
returns-in-Err-clause-refused c = inside_stuck c.args.self _ c.spell_means.ensures.inside

pub returns-in_err-push_all-clause-refused : goal.returns-in_err-push_all-clause-refused
returns-in_err-push_all-clause-refused c =
    let e = c.in_err-push_all.field-0.0 in
    err_as _ e (IsStuck c.args.self) c.from_residual.ensures.1 (inside_stuck c.args.self e c.in_err-push_all.ensures.refused)

pub returns-in_err-outcome-clause-refused : goal.returns-in_err-outcome-clause-refused
returns-in_err-outcome-clause-refused c =
    let e = c.in_err-outcome.field-0.0 in
    let s = c.in-Ok.stop in
    let b = c.in-Ok.ensures.cause (ap kept_stop c.new-worker.ensures.stop) in
    err_as _ e (IsStuck c.args.self) c.from_residual-in_err-outcome.ensures.1
    (stop_stuck c.args.self s c.finished.result e (sym c.in_err-outcome.ensures.outcome) (λ is. record {
      from = c.new-worker.result;
      to = c.batches.new.worker;
      lost = b.0;
      node = c.new-worker.ensures.node;
      lanes = c.new-worker.ensures.lanes;
      rounds = b.2;
      why = subst (λ (t : Stop). StopsBy (Some t) b.0 c.batches.new.worker) is b.3;
    }))
