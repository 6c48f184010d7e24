use Rattle.std.proofs.Common.{◌+◌, List, map, drop, subst}
use Rattle.sj_table.specs.declared.table.Spot.{Spot}
use Rattle.sj_rules.specs.Record.{Mail}
use Rattle.sj_end.specs.Views.{deferred_at}
use Rattle.sj_handover.specs.Fitting.{end_at_spot}
use Rattle.sj_handover.proofs.FitLemmas.{IsFitting, all_fit, fits_next, fits_not, none_left}
use Rattle.sj_handover.proofs.WorkLemmas.{rest_at}
use Rattle.sj_handover.proofs.fitness.fit_all.Goals as goal

pub returns-then-not-fit : goal.returns-then-not-fit
returns-then-not-fit c = λ p.
    let ds = c.args.deferred.now in
    let at = rest_at ds c.loop-frame.frame-index c.frame-item.result c.loop-frame-test.true c.frame-item.is in
    fits_not (end_at_spot c.args.end.now p) c.loop-frame.tally c.loop-frame.untaken (map deferred_at ds) (deferred_at c.frame-item.result) (map deferred_at (drop (c.loop-frame.frame-index + 1) ds))
    (subst (λ (ms : List (Mail Spot)). IsFitting (end_at_spot c.args.end.now p) c.loop-frame.tally c.loop-frame.untaken (map deferred_at ds) ms) at (c.loop-frame.invariant.fitting p))
    (c.if-not-fit.ensures.unfit p)

pub loop-frame-preserved : goal.loop-frame-preserved
loop-frame-preserved c =
    let ds = c.args.deferred.now in
    let at = rest_at ds c.loop-frame.frame-index c.frame-item.result c.loop-frame-test.true c.frame-item.is in
    record {
      fitting = λ p. fits_next (end_at_spot c.args.end.now p) c.loop-frame.tally c.fit.new.tally c.loop-frame.untaken c.fit.new.untaken (map deferred_at ds) (deferred_at c.frame-item.result) (map deferred_at (drop (c.loop-frame.frame-index + 1) ds))
          (subst (λ (ms : List (Mail Spot)). IsFitting (end_at_spot c.args.end.now p) c.loop-frame.tally c.loop-frame.untaken (map deferred_at ds) ms) at (c.loop-frame.invariant.fitting p))
          (c.if-not-fit.ensures.ok p);
      base = c.fit.ensures.base;
      upto = c.fit.ensures.upto;
      room = c.fit.ensures.room;
    }

pub returns : goal.returns
returns c = λ p.
    all_fit (end_at_spot c.args.end.now p) c.loop-frame.tally c.loop-frame.untaken (map deferred_at c.args.deferred.now) (map deferred_at (drop c.loop-frame.frame-index c.args.deferred.now))
    (none_left c.args.deferred.now c.loop-frame.frame-index c.loop-frame-test.false) (c.loop-frame.invariant.fitting p)
