use Rattle.sj_headline_laws.proofs.AcceptedLemmas.{run_is_sound, never_stuck}
use Rattle.sj_headline_laws.proofs.laws.no_program_is_stuck.Goals as goal

pub returns : goal.returns
returns c = λ file ps w p g accepted run there. never_stuck file w p g (run_is_sound file ps w accepted run) there
