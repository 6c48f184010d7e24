use Rattle.sj_seat_laws.proofs.SeatsRunLemmas.{run_front_fits, run_front_arrives}
use Rattle.sj_seat_laws.proofs.laws.each_front_fits_beside_seats.Goals as goal

pub returns-clause-step : goal.returns-clause-step
returns-clause-step c = λ file calls turns core pick q r f rest accepted run picks front. run_front_fits file calls accepted turns core run pick q r f rest picks front

pub returns-clause-arrives : goal.returns-clause-arrives
returns-clause-arrives c = λ file calls turns core pick q r f rest accepted run picks front. run_front_arrives file calls accepted turns core run pick q r f rest picks front
