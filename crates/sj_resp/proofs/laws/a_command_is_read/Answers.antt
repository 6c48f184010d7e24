use Rattle.sj_resp.proofs.CommandLemmas.{command_back}
use Rattle.sj_resp.proofs.laws.a_command_is_read.Goals as goal

pub returns : goal.returns
returns c = λ words rest few short. command_back words rest few short
