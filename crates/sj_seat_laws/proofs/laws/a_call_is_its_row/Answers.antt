use Rattle.sj_rules.specs.Node as wanted
use Rattle.sj_seat_laws.proofs.PlayedLemmas.{accepting_played, call_played, halts_played, requesting_played, taking_played}
use Rattle.sj_seat_laws.proofs.laws.a_call_is_its_row.Goals as goal

pub returns-clause-sends : goal.returns-clause-sends
returns-clause-sends c = λ file party s n e m. call_played file party s n (wanted.sends e m) (λ f place h. absurd (cc h)) (λ place to h. absurd (cc h)) (λ place from h. absurd (cc h))

pub returns-clause-delegates : goal.returns-clause-delegates
returns-clause-delegates c = λ file party s n x e. call_played file party s n (wanted.delegates x e) (λ f place h. absurd (cc h)) (λ place to h. absurd (cc h)) (λ place from h. absurd (cc h))

pub returns-clause-closes : goal.returns-clause-closes
returns-clause-closes c = λ file party s n e. call_played file party s n (wanted.closes e) (λ f place h. absurd (cc h)) (λ place to h. absurd (cc h)) (λ place from h. absurd (cc h))

pub returns-clause-takes : goal.returns-clause-takes
returns-clause-takes c = λ file party s n e place h m rest there head. taking_played file party s n e place h m rest there head

pub returns-clause-requests : goal.returns-clause-requests
returns-clause-requests c = λ file party s n place to. requesting_played file party s n place to

pub returns-clause-accepts : goal.returns-clause-accepts
returns-clause-accepts c = λ file party s n place from sess first. accepting_played file party s n place from sess first

pub returns-clause-halts : goal.returns-clause-halts
returns-clause-halts c = λ s n want. halts_played s n want
