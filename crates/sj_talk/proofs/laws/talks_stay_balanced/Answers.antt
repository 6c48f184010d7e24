use Rattle.sj_talk.proofs.MoveLemmas.{talk_balanced}
use Rattle.sj_talk.proofs.laws.talks_stay_balanced.Goals as goal

pub returns : goal.returns
returns c = talk_balanced
