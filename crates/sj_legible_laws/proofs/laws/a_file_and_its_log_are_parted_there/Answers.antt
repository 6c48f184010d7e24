use Rattle.sj_legible_laws.proofs.PartLemmas.{parted_there}
use Rattle.sj_legible_laws.proofs.laws.a_file_and_its_log_are_parted_there.Goals as goal

pub returns : goal.returns
returns c = parted_there
