use Rattle.sj_forward_laws.proofs.ShortRunLemmas.{run_drains}
use Rattle.sj_forward_laws.proofs.drains.each_run_drains.Goals as goal

pub returns : goal.returns
returns c = λ file turns w accepted run. run_drains file accepted turns w run
