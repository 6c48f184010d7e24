use Rattle.sj_forward_laws.proofs.ShortRunLemmas as lemmas
use Rattle.sj_forward_laws.proofs.runs.runs_are_short.Goals as goal

pub returns : goal.returns
returns c = λ file turns w accepted run. lemmas.runs_are_short file accepted turns w run
