use Rattle.sj_rules.specs.Events.{acts_in}
use Rattle.sj_rules_laws.proofs.CoreRunLemmas.{runs_stand, quiet_is_quiescent}
use Rattle.sj_rules_laws.proofs.RunLawsLemmas.{quiet_run_ends}
use Rattle.sj_rules_laws.proofs.runs.a_quiet_core_run_is_at_the_end.Goals as goal

pub returns-clause-quiescent : goal.returns-clause-quiescent
returns-clause-quiescent c = λ file turns core accepted run quiet. quiet_is_quiescent file accepted (acts_in turns) core (runs_stand file accepted turns core run) quiet

pub returns-clause-end : goal.returns-clause-end
returns-clause-end c = λ file turns core accepted run quiet. quiet_run_ends file accepted turns core run quiet
