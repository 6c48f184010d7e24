use Rattle.sj_party.proofs.WrongLemmas.{goes_wrong}
use Rattle.sj_party.proofs.laws.first_faults_go_wrong.Goals as goal

pub returns : goal.returns
returns c = goes_wrong
