use Rattle.sj_wire.proofs.StreamLemmas.{prefix_free}
use Rattle.sj_wire.proofs.laws.no_spelling_begins_another.Goals as goal

pub returns : goal.returns
returns c = λ f g x y lf lg same. prefix_free f g x y lf lg same
