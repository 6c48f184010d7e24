use Rattle.sj_lang.proofs.MeetLemmas.{meets_back}
use Rattle.sj_lang.proofs.laws.protocols_meet_in_both_orders.Goals as goal

pub returns : goal.returns
returns c = meets_back
