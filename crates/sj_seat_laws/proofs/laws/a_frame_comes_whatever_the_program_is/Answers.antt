use Rattle.sj_lang.specs.Place.{done}
use Rattle.sj_seat_laws.proofs.PlayedLemmas.{arrives_played}
use Rattle.sj_seat_laws.proofs.laws.a_frame_comes_whatever_the_program_is.Goals as goal

pub returns : goal.returns
returns c = λ g pick n origin parties f. arrives_played g pick n origin done parties f
