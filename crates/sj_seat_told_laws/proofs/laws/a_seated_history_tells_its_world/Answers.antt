use Rattle.sj_seat_told_laws.proofs.HistoryLemmas.{history_count, history_opened, history_sent, history_takers}
use Rattle.sj_seat_told_laws.proofs.laws.a_seated_history_tells_its_world.Goals as goal

pub returns-clause-sent : goal.returns-clause-sent
returns-clause-sent c = λ file calls pick lines core t e accepted picks history run. history_sent file calls accepted pick picks lines core history t run e

pub returns-clause-takers : goal.returns-clause-takers
returns-clause-takers c = λ file calls pick lines core t e accepted picks history run. history_takers file calls accepted pick picks lines core history t run e

pub returns-clause-count : goal.returns-clause-count
returns-clause-count c = λ file calls pick lines core t accepted picks history run. history_count file calls accepted pick picks lines core history t run

pub returns-clause-opened : goal.returns-clause-opened
returns-clause-opened c = λ file calls pick lines core t accepted picks history run. history_opened file calls accepted pick picks lines core history t run
