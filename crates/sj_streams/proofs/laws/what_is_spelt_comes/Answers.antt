use Rattle.sj_streams.proofs.AgainLemmas.{came_again}
use Rattle.sj_streams.proofs.laws.what_is_spelt_comes.Goals as goal

pub returns : goal.returns
returns c = λ keys seen rest cs all. came_again keys seen cs rest all
