use Rattle.sj_semantics.specs.Run.{end_of}
use Rattle.sj_semantics_laws.proofs.FinishLemmas.{end_is_settled}
use Rattle.sj_told_laws.proofs.EndLemmas.{end_opened, end_programs}
use Rattle.sj_told_laws.proofs.StillLemmas.{stands_still}
use Rattle.sj_told_laws.proofs.laws.a_quiet_core_stands_as_its_nodes.Goals as goal

pub returns-clause-programs : goal.returns-clause-programs
returns-clause-programs c = λ file pick lines core p accepted picks history quiet. end_programs file accepted pick picks lines core history quiet p

pub returns-clause-states : goal.returns-clause-states
returns-clause-states c = λ file p g there. stands_still (end_of file) p g there (end_is_settled file p)

pub returns-clause-opened : goal.returns-clause-opened
returns-clause-opened c = λ file pick lines core accepted picks history quiet none. end_opened file accepted pick picks lines core history quiet none
