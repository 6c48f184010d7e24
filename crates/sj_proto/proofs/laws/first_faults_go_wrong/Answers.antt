use Rattle.sj_proto.proofs.WrongLemmas.{goes_wrong}
use Rattle.sj_proto.proofs.laws.first_faults_go_wrong.Goals as goal

pub returns : goal.returns
returns c = goes_wrong
