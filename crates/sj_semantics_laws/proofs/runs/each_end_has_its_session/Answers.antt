use Rattle.sj_semantics_laws.proofs.RoomLemmas.{run_has}
use Rattle.sj_semantics_laws.proofs.runs.each_end_has_its_session.Goals as goal

pub returns : goal.returns
returns c = run_has
