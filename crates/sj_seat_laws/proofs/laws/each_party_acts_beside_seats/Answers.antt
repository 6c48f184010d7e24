use Rattle.sj_seat_laws.proofs.SeatsRunLemmas.{run_acts_unless}
use Rattle.sj_seat_laws.proofs.laws.each_party_acts_beside_seats.Goals as goal

pub returns : goal.returns
returns c = λ file calls turns core q accepted run free. run_acts_unless file calls accepted turns core run q free
