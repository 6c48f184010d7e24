use Rattle.sj_told_laws.proofs.EndLemmas.{end_count, end_sent, end_takers}
use Rattle.sj_told_laws.proofs.laws.a_quiet_history_tells_its_end.Goals as goal

pub returns-clause-sent : goal.returns-clause-sent
returns-clause-sent c = λ file pick lines core e accepted picks history quiet. end_sent file accepted pick picks lines core history quiet e

pub returns-clause-takers : goal.returns-clause-takers
returns-clause-takers c = λ file pick lines core e accepted picks history quiet. end_takers file accepted pick picks lines core history quiet e

pub returns-clause-count : goal.returns-clause-count
returns-clause-count c = λ file pick lines core accepted picks history quiet. end_count file accepted pick picks lines core history quiet
