use Rattle.sj_semantics_laws.proofs.SampleLemmas.{accepted_ends, unaccepted_ends, unrequested_ends}
use Rattle.sj_semantics_laws.proofs.samples.openings_end_so.Goals as goal

pub returns-clause-accepted : goal.returns-clause-accepted
returns-clause-accepted c = accepted_ends

pub returns-clause-unaccepted : goal.returns-clause-unaccepted
returns-clause-unaccepted c = unaccepted_ends

pub returns-clause-unrequested : goal.returns-clause-unrequested
returns-clause-unrequested c = unrequested_ends
