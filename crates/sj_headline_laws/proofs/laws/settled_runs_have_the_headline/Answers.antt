use Rattle.sj_headline_laws.proofs.HeadlineLemmas.{settled_run_has_it}
use Rattle.sj_headline_laws.proofs.laws.settled_runs_have_the_headline.Goals as goal

pub returns : goal.returns
returns c = settled_run_has_it
