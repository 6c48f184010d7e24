use Rattle.std.proofs.Common.{◌∙◌}
use Rattle.sj_talk.proofs.PlaceLemmas.{empty_is}
use Rattle.sj_talk.proofs.places.is_done.Goals as goal

pub returns : goal.returns
returns c = c.is_empty.ensures ∙ empty_is c.args.items.now
