use Rattle.sj_headline_laws.proofs.AcceptedLemmas.{run_is_sound, sound_is_balanced}
use Rattle.sj_headline_laws.proofs.laws.sessions_stay_balanced.Goals as goal

pub returns : goal.returns
returns c = λ file ps w accepted run s. sound_is_balanced file w s (run_is_sound file ps w accepted run)
