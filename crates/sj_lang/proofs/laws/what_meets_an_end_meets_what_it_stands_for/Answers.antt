use Rattle.sj_lang.proofs.MeetLemmas.{meets_through}
use Rattle.sj_lang.proofs.laws.what_meets_an_end_meets_what_it_stands_for.Goals as goal

pub returns : goal.returns
returns c = meets_through
