use Rattle.sj_seat_told.proofs.OpenedLemmas.{session_is}
use Rattle.sj_seat_told.proofs.sessions.session_told.Goals as goal

pub returns : goal.returns
returns c = session_is c.args.lines.now c.args.from c.args.sess c.args.to c.is_accepted.result c.accepted_if-second.result c.is_accepted.ensures c.accepted_if-second.ensures
