use Rattle.sj_headline_laws.proofs.AcceptedLemmas.{run_is_sound}
use Rattle.sj_headline_laws.proofs.FittingLemmas.{taken_stands}
use Rattle.sj_headline_laws.proofs.laws.a_taken_end_stands_for_the_body.Goals as goal

pub returns : goal.returns
returns c = λ file ps w p q g e x s d k accepted run there it next is. taken_stands file w (run_is_sound file ps w accepted run) p q g e x s d k there it next is
