use Rattle.sj_talk.proofs.PlaceLemmas.{told_by}
use Rattle.sj_talk.proofs.places.stands_in.Goals as goal

pub returns : goal.returns
returns c = told_by c.stands_for.result c.args.own.now c.args.wanted.now c.stands_for.ensures
