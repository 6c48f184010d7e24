use Rattle.sj_proto.proofs.CanonicalTextLemmas.{read_again}
use Rattle.sj_proto.proofs.printing_laws.printed_text_is_read_again.Goals as goal

pub returns : goal.returns
returns c = read_again
