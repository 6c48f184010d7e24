use Rattle.sj_semantics_laws.proofs.SampleLemmas.{agency_ends, refused_ends}
use Rattle.sj_semantics_laws.proofs.samples.agencies_end_so.Goals as goal

pub returns-clause-agency : goal.returns-clause-agency
returns-clause-agency c = agency_ends

pub returns-clause-refused : goal.returns-clause-refused
returns-clause-refused c = refused_ends
