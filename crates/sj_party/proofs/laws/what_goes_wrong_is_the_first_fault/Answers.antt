use Rattle.sj_party.proofs.WrongLemmas.{is_first_fault}
use Rattle.sj_party.proofs.laws.what_goes_wrong_is_the_first_fault.Goals as goal

pub returns : goal.returns
returns c = is_first_fault
