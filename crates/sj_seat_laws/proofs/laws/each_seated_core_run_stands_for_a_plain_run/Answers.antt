use Rattle.sj_seat_laws.proofs.SeatsRunLemmas.{run_stands}
use Rattle.sj_seat_laws.proofs.laws.each_seated_core_run_stands_for_a_plain_run.Goals as goal

pub returns : goal.returns
returns c = λ file calls turns core accepted run. run_stands file calls accepted turns core run
