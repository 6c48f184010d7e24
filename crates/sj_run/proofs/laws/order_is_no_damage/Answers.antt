use Rattle.sj_run.proofs.OrderLemmas.{ordered_fits, ordered_history}
use Rattle.sj_run.proofs.laws.order_is_no_damage.Goals as goal

pub returns-clause-history : goal.returns-clause-history
returns-clause-history c = λ file left lines accepted carried joins. ordered_history file left carried accepted lines joins

pub returns-clause-fits : goal.returns-clause-fits
returns-clause-fits c = λ file left lines accepted carried joins p l there stopped. ordered_fits file left carried accepted lines joins p l there stopped
