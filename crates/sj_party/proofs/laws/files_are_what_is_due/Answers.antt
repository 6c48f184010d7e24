use Rattle.sj_party.proofs.FileRunLemmas.{file_completes}
use Rattle.sj_party.proofs.laws.files_are_what_is_due.Goals as goal

pub returns : goal.returns
returns c = λ L n f ps is. file_completes L f ps n is
