use Rattle.sj_proto.proofs.CanonicalTextLemmas.{stands}
use Rattle.sj_proto.proofs.printing_laws.printed_text_stands.Goals as goal

pub returns : goal.returns
returns c = stands
