use Rattle.sj_headline_laws.proofs.WidthLemmas.{narrower_is_accepted}
use Rattle.sj_headline_laws.proofs.laws.a_file_with_a_narrower_selection_is_accepted.Goals as goal

pub returns : goal.returns
returns c = narrower_is_accepted
