use Rattle.sj_headline_laws.proofs.HeadlineLemmas.{takes_all}
use Rattle.sj_headline_laws.proofs.laws.done_takes_all_that_was_sent.Goals as goal

pub returns : goal.returns
returns c = λ file ps w e accepted run done. takes_all file ps w accepted run done e
