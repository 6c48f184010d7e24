use Rattle.sj_legible_laws.proofs.EndedLemmas.{file_ended}
use Rattle.sj_legible_laws.proofs.laws.a_newline_behind_a_file_changes_nothing.Goals as goal

pub returns : goal.returns
returns c = file_ended
