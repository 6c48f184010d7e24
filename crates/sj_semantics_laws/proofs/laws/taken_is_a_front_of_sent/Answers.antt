use Rattle.sj_semantics_laws.proofs.TakenLemmas.{run_untaken}
use Rattle.sj_semantics_laws.proofs.laws.taken_is_a_front_of_sent.Goals as goal

pub returns : goal.returns
returns c = run_untaken
