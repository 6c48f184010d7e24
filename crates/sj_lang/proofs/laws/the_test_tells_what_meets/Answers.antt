use Rattle.sj_lang.proofs.MeetTestLemmas.{meets-Decides}
use Rattle.sj_lang.proofs.laws.the_test_tells_what_meets.Goals as goal

pub returns : goal.returns
returns c = λ p q. ((meets-Decides p q).0, (meets-Decides p q).1)
