use Rattle.sj_forest_laws.proofs.OpensLemmas.{none_is_first, openless_from}
use Rattle.sj_forest_laws.proofs.laws.a_file_opens_none_where_no_opening_is_found.Goals as goal

pub returns : goal.returns
returns c = λ file. (openless_from file, none_is_first file)
