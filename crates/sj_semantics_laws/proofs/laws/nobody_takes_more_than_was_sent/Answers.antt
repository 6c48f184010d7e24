use Rattle.sj_semantics_laws.proofs.TakenLemmas.{run_le}
use Rattle.sj_semantics_laws.proofs.laws.nobody_takes_more_than_was_sent.Goals as goal

pub returns : goal.returns
returns c = run_le
