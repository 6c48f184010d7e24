use Rattle.sj_generator_laws.proofs.AcceptedLemmas.{file_is_accepted}
use Rattle.sj_generator_laws.proofs.laws.the_generated_file_is_accepted.Goals as goal

pub returns : goal.returns
returns c = file_is_accepted
