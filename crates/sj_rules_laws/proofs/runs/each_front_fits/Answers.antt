use Rattle.sj_rules_laws.proofs.LimitLemmas.{run_front_fits, run_front_arrives}
use Rattle.sj_rules_laws.proofs.runs.each_front_fits.Goals as goal

pub returns-clause-step : goal.returns-clause-step
returns-clause-step c = λ file turns core pick p q f rest accepted run picks front. run_front_fits file accepted turns core run pick p q f rest picks front

pub returns-clause-arrives : goal.returns-clause-arrives
returns-clause-arrives c = λ file turns core pick p q f rest accepted run picks front. run_front_arrives file accepted turns core run pick p q f rest picks front
