use Rattle.sj_forest_laws.proofs.OpensLemmas.{opens_is_no_forest}
use Rattle.sj_forest_laws.proofs.laws.a_file_that_opens_a_session_is_no_forest.Goals as goal

pub returns : goal.returns
returns c = opens_is_no_forest
