use Rattle.std.proofs.Common.{length}
use Rattle.sj_seat_laws.proofs.SeatsRunLemmas.{seats_run}
use Rattle.sj_seat_told_laws.proofs.VerdictLemmas.{all_done_is_done, done_is_all_done, verdict_is}
use Rattle.sj_seat_told_laws.proofs.laws.seats_are_judged_by_their_stands.Goals as goal

pub returns-clause-told : goal.returns-clause-told
returns-clause-told c = λ t stands are. verdict_is t stands are

pub returns-clause-done : goal.returns-clause-done
returns-clause-done c = λ file calls acts t accepted run.
    let i = seats_run file calls accepted acts t run in
    (done_is_all_done file (length acts) t i, all_done_is_done file (length acts) t i)
