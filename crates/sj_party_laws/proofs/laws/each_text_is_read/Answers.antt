use Rattle.sj_party_laws.proofs.AnswerLemmas.{file_or_fault}
use Rattle.sj_party_laws.proofs.laws.each_text_is_read.Goals as goal

pub returns : goal.returns
returns c = file_or_fault
