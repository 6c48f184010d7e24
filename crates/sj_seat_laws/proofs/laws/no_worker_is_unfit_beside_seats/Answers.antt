use Rattle.sj_seat_laws.proofs.SeatsRunLemmas.{worker_acts, lost_arrives}
use Rattle.sj_seat_laws.proofs.laws.no_worker_is_unfit_beside_seats.Goals as goal

pub returns-clause-frame : goal.returns-clause-frame
returns-clause-frame c = λ file calls pick blank workers lost r q f accepted picks all lt one. lost_arrives file calls accepted pick picks blank workers lost all r q f lt one

pub returns-clause-act : goal.returns-clause-act
returns-clause-act c = λ file calls pick blank workers lost q accepted picks all lt free. worker_acts file calls accepted pick picks blank workers lost all q lt free
