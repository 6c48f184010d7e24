use Rattle.sj_seat_laws.proofs.SeatsEndLemmas.{settled_run_has_it}
use Rattle.sj_seat_laws.proofs.laws.settled_seated_runs_have_the_headline.Goals as goal

pub returns : goal.returns
returns c = settled_run_has_it
