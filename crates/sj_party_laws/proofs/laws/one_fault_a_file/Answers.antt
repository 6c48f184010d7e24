use Rattle.sj_party_laws.proofs.OneFault.{one_fault}
use Rattle.sj_party_laws.proofs.laws.one_fault_a_file.Goals as goal

pub returns : goal.returns
returns c = one_fault
