use Rattle.sj_resp.proofs.ReadLemmas.{bytes_back}
use Rattle.sj_resp.proofs.laws.bytes_are_read.Goals as goal

pub returns : goal.returns
returns c = λ word rest. bytes_back word rest
