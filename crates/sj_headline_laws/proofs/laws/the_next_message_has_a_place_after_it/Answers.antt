use Rattle.sj_headline_laws.proofs.AcceptedLemmas.{run_is_sound}
use Rattle.sj_headline_laws.proofs.FittingLemmas.{next_has_a_place}
use Rattle.sj_headline_laws.proofs.laws.the_next_message_has_a_place_after_it.Goals as goal

pub returns : goal.returns
returns c = λ file ps w e x accepted run next. next_has_a_place file w (run_is_sound file ps w accepted run) e x next
