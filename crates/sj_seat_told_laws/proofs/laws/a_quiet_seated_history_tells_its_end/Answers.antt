use Rattle.sj_seat_told_laws.proofs.EndLemmas.{quiet_end}
use Rattle.sj_seat_told_laws.proofs.laws.a_quiet_seated_history_tells_its_end.Goals as goal

pub returns : goal.returns
returns c = λ file calls pick lines core accepted picks history quiet. quiet_end file calls pick lines core accepted picks history quiet
