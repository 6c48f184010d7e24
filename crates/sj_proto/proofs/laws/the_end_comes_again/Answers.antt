use Rattle.sj_proto.proofs.EndLemmas.{end_again}
use Rattle.sj_proto.proofs.laws.the_end_comes_again.Goals as goal

pub returns : goal.returns
returns c = end_again
