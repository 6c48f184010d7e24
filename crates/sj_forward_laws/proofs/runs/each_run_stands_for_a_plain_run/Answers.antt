use Rattle.sj_forward_laws.proofs.RunLemmas.{runs_stand}
use Rattle.sj_forward_laws.proofs.runs.each_run_stands_for_a_plain_run.Goals as goal

pub returns : goal.returns
returns c = λ file turns w accepted run. let s = runs_stand file accepted turns w run in (s.plain, s.run, s.kept)
