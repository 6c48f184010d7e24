use Rattle.sj_semantics_laws.proofs.SampleLemmas.{both_moved_ends, delegation_ends, returning_ends, to_its_peer_ends, to_itself_ends}
use Rattle.sj_semantics_laws.proofs.samples.handovers_end_so.Goals as goal

pub returns-clause-delegation : goal.returns-clause-delegation
returns-clause-delegation c = delegation_ends

pub returns-clause-returning : goal.returns-clause-returning
returns-clause-returning c = returning_ends

pub returns-clause-both_moved : goal.returns-clause-both_moved
returns-clause-both_moved c = both_moved_ends

pub returns-clause-to_its_peer : goal.returns-clause-to_its_peer
returns-clause-to_its_peer c = to_its_peer_ends

pub returns-clause-to_itself : goal.returns-clause-to_itself
returns-clause-to_itself c = to_itself_ends
