use Rattle.std.proofs.Common.{◌∙◌, Option, None, sym, subst, refl}
use Rattle.std.specs.Prelude.{IsSome}
use Rattle.sj_end.specs.declared.note.Line.{Line}
use Rattle.sj_work.specs.declared.worker.Stop.TheVariants as stops
use Rattle.sj_run.proofs.DamageLemmas.{lowest_unfit}
use Rattle.sj_run.proofs.StopLemmas.{none_at_all, none_first, none_next}
use Rattle.sj_run.proofs.stops.first_unfit.Goals as goal

pub loop-worker-init : goal.loop-worker-init
loop-worker-init g c = none_first c.args.workers.now stops.Unfit

pub returns-in-Some-clause-some : goal.returns-in-Some-clause-some
returns-in-Some-clause-some g c =
    lowest_unfit c.args.workers.now c.loop-worker.worker-index c.worker-item.result c.in-Some.line c.loop-worker-test.true c.worker-item.is c.loop-worker.invariant
    (c.unfit.ensures.some.0 (subst (λ (o : Option Line). IsSome o) (sym c.in-Some.is) refl)) (sym c.unfit.ensures.line ∙ c.in-Some.is)

pub loop-worker-preserved : goal.loop-worker-preserved
loop-worker-preserved g c =
    none_next c.args.workers.now stops.Unfit c.loop-worker.worker-index c.worker-item.result c.loop-worker-test.true c.worker-item.is
    (λ stopped. let none : IsSome {T = Line} None = subst (λ (o : Option Line). IsSome o) c.in_default.is (c.unfit.ensures.some.1 stopped) in cc none) c.loop-worker.invariant

pub returns-clause-none : goal.returns-clause-none
returns-clause-none g c = λ no. none_at_all c.args.workers.now stops.Unfit c.loop-worker.worker-index c.loop-worker-test.false c.loop-worker.invariant
