use Rattle.sj_proto.proofs.EndLemmas.{one_fault}
use Rattle.sj_proto.proofs.laws.one_fault_a_text.Goals as goal

pub returns : goal.returns
returns c = one_fault
