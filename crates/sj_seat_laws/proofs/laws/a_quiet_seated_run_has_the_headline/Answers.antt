use Rattle.sj_seat_laws.proofs.SeatsEndLemmas.{settled_run_has_it}
use Rattle.sj_seat_laws.proofs.SeatsRunLemmas.{quiet_ends}
use Rattle.sj_rules.specs.Events.{acts_in}
use Rattle.sj_seat_laws.proofs.laws.a_quiet_seated_run_has_the_headline.Goals as goal

pub returns : goal.returns
returns c = λ file calls turns core accepted run quiet.
    let e = quiet_ends file calls accepted turns core run quiet in
    (e.0, settled_run_has_it file calls (acts_in turns) e.0 accepted e.1 e.3, e.2)
