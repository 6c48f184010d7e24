use Rattle.sj_headline_laws.proofs.PlacedLemmas.{done_runs_take_all}
use Rattle.sj_headline_laws.proofs.laws.done_leaves_nothing_untaken.Goals as goal

pub returns : goal.returns
returns c = done_runs_take_all
