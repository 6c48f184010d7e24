use Rattle.sj_proto.proofs.TextLemmas.{no_fault}
use Rattle.sj_proto.proofs.laws.no_protocol_has_a_fault.Goals as goal

pub returns : goal.returns
returns c = no_fault
