use Rattle.sj_forward_laws.proofs.RunLawsLemmas.{run_untaken}
use Rattle.sj_forward_laws.proofs.runs.what_is_on_its_way_is_untaken.Goals as goal

pub returns : goal.returns
returns c = λ file turns w v accepted run plain_run. run_untaken file accepted turns w v run plain_run
