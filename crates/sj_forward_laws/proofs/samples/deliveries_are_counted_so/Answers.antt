use Rattle.sj_forward_laws.proofs.SampleLemmas.{delegation_passes, both_moved_passes, accepted_passes, opened_and_moved_passes}
use Rattle.sj_forward_laws.proofs.samples.deliveries_are_counted_so.Goals as goal

pub returns-clause-one : goal.returns-clause-one
returns-clause-one c = delegation_passes

pub returns-clause-both : goal.returns-clause-both
returns-clause-both c = both_moved_passes

pub returns-clause-opened : goal.returns-clause-opened
returns-clause-opened c = accepted_passes

pub returns-clause-moved : goal.returns-clause-moved
returns-clause-moved c = opened_and_moved_passes
