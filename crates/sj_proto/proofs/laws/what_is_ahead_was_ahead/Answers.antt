use Rattle.sj_proto.proofs.OnwardLemmas.{still_ahead}
use Rattle.sj_proto.proofs.laws.what_is_ahead_was_ahead.Goals as goal

pub returns : goal.returns
returns c = still_ahead
