use Rattle.sj_seat_laws.proofs.PlayedLemmas.{note_tells_call}
use Rattle.sj_seat_laws.proofs.laws.a_log_tells_the_calls.Goals as goal

pub returns : goal.returns
returns c = λ party n s note h. let t = note_tells_call party n s note h in (t.call, t.later, t.calls, t.protocol, t.told)
