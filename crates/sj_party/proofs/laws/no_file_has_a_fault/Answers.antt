use Rattle.sj_party.proofs.Faultless.{no_fault}
use Rattle.sj_party.proofs.laws.no_file_has_a_fault.Goals as goal

pub returns : goal.returns
returns c = no_fault
