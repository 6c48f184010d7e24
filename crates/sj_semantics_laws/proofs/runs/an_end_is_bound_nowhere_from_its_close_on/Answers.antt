use Rattle.sj_semantics_laws.proofs.MomentLemmas.{unclaimed_nowhere, closed_stays}
use Rattle.sj_semantics_laws.proofs.runs.an_end_is_bound_nowhere_from_its_close_on.Goals as goal

pub returns-clause-bound : goal.returns-clause-bound
returns-clause-bound c = λ file ps qs w v u p g e few run there want h k. unclaimed_nowhere u e (closed_stays file ps qs w v u p g e few run there want h k)

pub returns-clause-claimed : goal.returns-clause-claimed
returns-clause-claimed c = closed_stays
