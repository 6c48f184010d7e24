use Rattle.sj_lang.proofs.HeadLemmas.{take_standing}
use Rattle.sj_lang.proofs.laws.what_stands_in_takes_no_more.Goals as goal

pub returns : goal.returns
returns c = take_standing
