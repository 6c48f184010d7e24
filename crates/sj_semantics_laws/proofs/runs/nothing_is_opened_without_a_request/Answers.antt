use Rattle.sj_semantics_laws.proofs.OpenlessRunLemmas.{run_opens_none}
use Rattle.sj_semantics_laws.proofs.runs.nothing_is_opened_without_a_request.Goals as goal

pub returns : goal.returns
returns c = λ file ps w p none run. (run_opens_none file ps w none run).nothing p
