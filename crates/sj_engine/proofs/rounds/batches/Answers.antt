use Rattle.std.proofs.Common.{Option, refl, sym, subst, ap, ◌∙◌}
use Rattle.sj_lang.specs.Place.{Place}
use Rattle.sj_rules.specs.Work.{LostAt}
use Rattle.sj_node.specs.Reading.{party_of}
use Rattle.sj_work.specs.declared.worker.Stop.{Stop}
use Rattle.sj_work.specs.Causes.{Loses}
use Rattle.sj_work.specs.Views.{node_of, out_of}
use Rattle.sj_work.specs.Worked.{kept_stop}
use Rattle.sj_engine.specs.Batch.{StopsBy}
use Rattle.sj_engine.specs.Home.{IsOutside}
use Rattle.sj_engine.specs.Rounds.{Rounds}
use Rattle.sj_engine.proofs.RoundLemmas.{kept_none, no_loss, rounds_batch, rounds_home, rounds_none, stops_home}
use Rattle.sj_engine.proofs.rounds.batches.Goals as goal

pub loop-init : goal.loop-init
loop-init g c = record { rounds = rounds_none c.args.worker.now; goes = λ none. none }

pub returns-then-not-goes_on-clause-rounds : goal.returns-then-not-goes_on-clause-rounds
returns-then-not-goes_on-clause-rounds g c =
    let b = c.batch-stop.ensures.batch in
    (b.0, b.1, rounds_batch c.args.worker.now c.loop.worker c.batch-stop.new.worker b.0 c.loop.invariant.rounds b.2)

pub returns-then-not-goes_on-clause-cause : goal.returns-then-not-goes_on-clause-cause
returns-then-not-goes_on-clause-cause g c = λ none.
    let b = c.batch-stop.ensures.batch in (
      b.0,
      subst (λ (s : Option Stop). Loses b.0 s) c.batch-stop.ensures.stop b.1,
      rounds_batch c.args.worker.now c.loop.worker c.batch-stop.new.worker b.0 c.loop.invariant.rounds b.2,
      subst (λ (s : Option Stop). StopsBy s b.0 c.batch-stop.new.worker) c.batch-stop.ensures.stop (b.3 (c.loop.invariant.goes none)),
    )

pub returns-in-Ok-false-clause-rounds : goal.returns-in-Ok-false-clause-rounds
returns-in-Ok-false-clause-rounds g c =
    let b = c.batch-stop.ensures.batch in
    let rounds = rounds_batch c.args.worker.now c.loop.worker c.batch-stop.new.worker b.0 c.loop.invariant.rounds b.2 in
    (b.0, subst (λ (s : Option Stop). Loses b.0 s) (sym c.go_home.ensures.goes.stop) b.1, rounds_home c.args.worker.now c.batch-stop.new.worker c.go_home.new.worker b.0 rounds c.go_home.ensures.goes)

pub returns-in-Ok-false-clause-cause : goal.returns-in-Ok-false-clause-cause
returns-in-Ok-false-clause-cause g c = λ none.
    let b = c.batch-stop.ensures.batch in
    let rounds = rounds_batch c.args.worker.now c.loop.worker c.batch-stop.new.worker b.0 c.loop.invariant.rounds b.2 in (
      b.0,
      subst (λ (s : Option Stop). Loses b.0 s) c.batch-stop.ensures.stop b.1,
      rounds_home c.args.worker.now c.batch-stop.new.worker c.go_home.new.worker b.0 rounds c.go_home.ensures.goes,
      stops_home c.batch-stop.result b.0 c.batch-stop.new.worker c.go_home.new.worker (sym c.goes_on.ensures ∙ c.if-not-goes_on.false) c.go_home.ensures.goes.node
          (subst (λ (s : Option Stop). StopsBy s b.0 c.batch-stop.new.worker) c.batch-stop.ensures.stop (b.3 (c.loop.invariant.goes none))),
    )

pub returns-in-Err-clause-rounds : goal.returns-in-Err-clause-rounds
returns-in-Err-clause-rounds g c =
    let b = c.batch-stop.ensures.batch in
    let rounds = rounds_batch c.args.worker.now c.loop.worker c.batch-stop.new.worker b.0 c.loop.invariant.rounds b.2 in
    (b.0, subst (λ (s : Option Stop). Loses b.0 s) (sym c.go_home.ensures.goes.stop) b.1, rounds_home c.args.worker.now c.batch-stop.new.worker c.go_home.new.worker b.0 rounds c.go_home.ensures.goes)

pub returns-in-Err-clause-unlawful : goal.returns-in-Err-clause-unlawful
returns-in-Err-clause-unlawful g c = λ e.
    let b = c.batch-stop.ensures.batch in
    subst (λ p. IsOutside (out_of c.go_home.new.worker p)) (b.2.party ∙ c.loop.invariant.rounds.party) (c.in-Err.ensures.unlawful e)

pub loop-preserved : goal.loop-preserved
loop-preserved g c =
    let b = c.batch-stop.ensures.batch in
    let rounds = rounds_batch c.args.worker.now c.loop.worker c.batch-stop.new.worker b.0 c.loop.invariant.rounds b.2 in
    let goes = sym c.goes_on.ensures ∙ c.if-not-goes_on.false in
    let none = no_loss c.batch-stop.result b.0 goes (subst (λ (s : Option Stop). Loses b.0 s) c.batch-stop.ensures.stop b.1) in
    record {
      rounds = subst (λ (l : Option (LostAt Place)). Rounds l c.args.worker.now c.go_home.new.worker) none (rounds_home c.args.worker.now c.batch-stop.new.worker c.go_home.new.worker b.0 rounds c.go_home.ensures.goes);
      goes = λ fresh. ap kept_stop (c.go_home.ensures.goes.stop ∙ c.batch-stop.ensures.stop) ∙ kept_none c.batch-stop.result goes;
    }
