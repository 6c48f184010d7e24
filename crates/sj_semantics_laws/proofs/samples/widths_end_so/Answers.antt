use Rattle.sj_semantics_laws.proofs.SampleLemmas.{narrower_ends, standing_in_ends}
use Rattle.sj_semantics_laws.proofs.samples.widths_end_so.Goals as goal

pub returns-clause-narrower : goal.returns-clause-narrower
returns-clause-narrower c = narrower_ends

pub returns-clause-standing_in : goal.returns-clause-standing_in
returns-clause-standing_in c = standing_in_ends
