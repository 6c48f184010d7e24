use Rattle.sj_proto.proofs.EndLemmas.{only_end}
use Rattle.sj_proto.proofs.laws.only_the_end_is_the_end.Goals as goal

pub returns : goal.returns
returns c = only_end
