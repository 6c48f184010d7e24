use Rattle.sj_headline_laws.proofs.AcceptedLemmas.{run_is_sound}
use Rattle.sj_headline_laws.proofs.FittingLemmas.{sound_fits_places}
use Rattle.sj_headline_laws.proofs.laws.steps_fit_the_places.Goals as goal

pub returns : goal.returns
returns c = λ file ps w p g want accepted run there it. sound_fits_places file w (run_is_sound file ps w accepted run) p g want there it
