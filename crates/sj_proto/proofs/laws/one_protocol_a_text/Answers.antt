use Rattle.sj_proto.proofs.TextLemmas.{one_protocol}
use Rattle.sj_proto.proofs.laws.one_protocol_a_text.Goals as goal

pub returns : goal.returns
returns c = one_protocol
