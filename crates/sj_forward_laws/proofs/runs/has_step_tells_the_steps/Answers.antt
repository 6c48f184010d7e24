use Rattle.sj_forward_laws.proofs.RunLawsLemmas.{run_steps, run_steps_not}
use Rattle.sj_forward_laws.proofs.runs.has_step_tells_the_steps.Goals as goal

pub returns-clause-step : goal.returns-clause-step
returns-clause-step c = λ file turns w p event accepted run has. run_steps file accepted turns w p run event has

pub returns-clause-none : goal.returns-clause-none
returns-clause-none c = λ file turns w p event accepted run none. run_steps_not file accepted turns w p run event none
