use Rattle.sj_streams.proofs.SpeltLemmas.{came_spelt}
use Rattle.sj_streams.proofs.laws.what_came_is_spelt_so.Goals as goal

pub returns : goal.returns
returns c = λ keys seen tokens rest cs is. came_spelt keys seen tokens cs rest is
