use Rattle.sj_talk.proofs.MoveLemmas.{talk_serves}
use Rattle.sj_talk.proofs.laws.talks_serve_the_others.Goals as goal

pub returns : goal.returns
returns c = talk_serves
