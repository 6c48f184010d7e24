use Rattle.sj_party.proofs.OneFile.{one_file}
use Rattle.sj_party.proofs.laws.one_file_a_text.Goals as goal

pub returns : goal.returns
returns c = one_file
