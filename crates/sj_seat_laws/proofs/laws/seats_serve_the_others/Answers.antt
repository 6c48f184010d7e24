use Rattle.sj_seat_laws.proofs.SeatsEndLemmas.{run_serves}
use Rattle.sj_seat_laws.proofs.laws.seats_serve_the_others.Goals as goal

pub returns : goal.returns
returns c = run_serves
