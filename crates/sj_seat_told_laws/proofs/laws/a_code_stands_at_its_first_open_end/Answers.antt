use Rattle.std.proofs.Common.{◌≤◌, ℕ, arith}
use Rattle.sj_lang.specs.FileAt.{FileAt}
use Rattle.sj_acceptance.specs.Accepted.{IsAccepted}
use Rattle.sj_base.specs.declared.EndId.{EndId}
use Rattle.std.proofs.Common.{◌≡◌, List, Some}
use Rattle.sj_seat_laws.specs.Calls.{SeatedAt}
use Rattle.sj_seat_laws.specs.SeatsStart.{Callers, IsSeatsRun}
use Rattle.sj_seat_laws.specs.SeatsWorld.{SeatsWorld, seat_of}
use Rattle.sj_seat_laws.proofs.HeldLemmas.{holds}
use Rattle.sj_seat_laws.proofs.SeatsLemmas.{one_holds}
use Rattle.sj_seat_laws.proofs.SeatsRunLemmas.{seats_run}
use Rattle.sj_seat_told_laws.proofs.OpenLemmas.{first_is_open, none_open, open_none}
use Rattle.sj_seat_told_laws.proofs.laws.a_code_stands_at_its_first_open_end.Goals as goal

-- a code holds each end once
held_once : (file : FileAt) (calls : Callers) (acts : List ℕ) (t : SeatsWorld) (q : ℕ) (s : SeatedAt) → IsAccepted file → IsSeatsRun file calls acts t → seat_of t.seats q ≡ Some s → (e : EndId) → holds e s.ends ≤ 1
held_once file calls acts t q s accepted run at e = omega (arith, (seats_run file calls accepted acts t run).once e, one_holds t.seats q s at e)

pub returns-clause-open : goal.returns-clause-open
returns-clause-open c = λ file calls acts t q s e accepted run at h. first_is_open s.ends (held_once file calls acts t q s accepted run at) e h

pub returns-clause-none : goal.returns-clause-none
returns-clause-none c = λ file calls acts t q s accepted run at. (λ h. none_open s.ends h, λ over. open_none s.ends (held_once file calls acts t q s accepted run at) over)
