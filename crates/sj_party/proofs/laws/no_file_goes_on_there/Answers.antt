use Rattle.sj_party.proofs.Faultless.{not_viable, not_whole}
use Rattle.sj_party.proofs.laws.no_file_goes_on_there.Goals as goal

pub returns-clause-token : goal.returns-clause-token
returns-clause-token c = not_viable

pub returns-clause-whole : goal.returns-clause-whole
returns-clause-whole c = not_whole
