use Rattle.sj_draw.proofs.OnceLemmas.{once}
use Rattle.sj_draw.proofs.laws.each_delivery_is_drawn_once.Goals as goal

pub returns : goal.returns
returns c = λ f g n lines none e. once f g n lines none e
