use Rattle.sj_seat_laws.proofs.SeatsEndLemmas.{run_balanced}
use Rattle.sj_seat_laws.proofs.laws.seats_keep_sessions_balanced.Goals as goal

pub returns : goal.returns
returns c = run_balanced
