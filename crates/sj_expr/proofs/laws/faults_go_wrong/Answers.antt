use Rattle.sj_expr.proofs.ViabilityLemmas.{goes_wrong}
use Rattle.sj_expr.proofs.laws.faults_go_wrong.Goals as goal

pub returns : goal.returns
returns c = goes_wrong
