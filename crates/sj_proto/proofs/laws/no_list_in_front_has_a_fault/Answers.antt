use Rattle.sj_proto.proofs.OneFront.{no_fault_in_front}
use Rattle.sj_proto.proofs.laws.no_list_in_front_has_a_fault.Goals as goal

pub returns : goal.returns
returns c = λ a b ps f is st. no_fault_in_front a b ps is f st
