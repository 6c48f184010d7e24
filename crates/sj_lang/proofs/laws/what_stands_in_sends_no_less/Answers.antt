use Rattle.sj_lang.proofs.HeadLemmas.{send_standing}
use Rattle.sj_lang.proofs.laws.what_stands_in_sends_no_less.Goals as goal

pub returns : goal.returns
returns c = send_standing
