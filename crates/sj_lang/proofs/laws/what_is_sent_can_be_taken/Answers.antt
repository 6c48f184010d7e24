use Rattle.sj_lang.proofs.HeadLemmas.{send_answered}
use Rattle.sj_lang.proofs.laws.what_is_sent_can_be_taken.Goals as goal

pub returns : goal.returns
returns c = send_answered
