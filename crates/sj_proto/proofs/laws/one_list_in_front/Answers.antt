use Rattle.sj_proto.proofs.OneFront.{one_front}
use Rattle.sj_proto.proofs.laws.one_list_in_front.Goals as goal

pub returns : goal.returns
returns c = λ a b c ps qs h g. one_front a b c ps qs h g
