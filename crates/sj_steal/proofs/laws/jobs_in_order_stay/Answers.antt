use Rattle.sj_steal.proofs.OrderLemmas.{done_in_place}
use Rattle.sj_steal.proofs.laws.jobs_in_order_stay.Goals as goal

pub returns : goal.returns
returns g c = done_in_place g.J.Job.number_of g.J.Job.ran
