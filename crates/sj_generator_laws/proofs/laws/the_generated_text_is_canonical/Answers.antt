use Rattle.sj_generator_laws.proofs.TextLemmas.{text_is_canonical}
use Rattle.sj_generator_laws.proofs.laws.the_generated_text_is_canonical.Goals as goal

pub returns : goal.returns
returns c = text_is_canonical
