use Rattle.sj_headline_laws.proofs.AcceptedLemmas.{run_is_sound}
use Rattle.sj_headline_laws.proofs.FittingLemmas.{accepted_stands}
use Rattle.sj_headline_laws.proofs.laws.an_accepted_end_stands_for_the_body.Goals as goal

pub returns : goal.returns
returns c = λ file ps w p q n k g accepted run there it first. accepted_stands file w (run_is_sound file ps w accepted run) p q n k g there it first
