use Rattle.sj_semantics.specs.World.{start_of}
use Rattle.sj_semantics_laws.proofs.MomentLemmas.{front_of_acts}
use Rattle.sj_semantics_laws.proofs.runs.a_front_of_a_run_is_a_run.Goals as goal

pub returns : goal.returns
returns c = λ file ps qs w run. front_of_acts (start_of file) w ps qs run
