use Rattle.sj_headline_laws.proofs.AcceptedLemmas.{run_is_sound, next_fits}
use Rattle.sj_headline_laws.proofs.laws.the_next_message_fits.Goals as goal

pub returns : goal.returns
returns c = λ file ps w p g e a x accepted run there want next. next_fits file w p g e a x (run_is_sound file ps w accepted run) there want next
