use Rattle.sj_forward.proofs.TakeLemmas.{can_claim}
use Rattle.sj_forward.proofs.ResultLemmas.{on_ok}
use Rattle.sj_forward.proofs.forwarder.Forwarder.room_to_claim.Goals as goal

pub returns-in_ok-make_room-in-Sess-clause-room : goal.returns-in_ok-make_room-in-Sess-clause-room
returns-in_ok-make_room-in-Sess-clause-room c =
    on_ok c.make_place.result
    (can_claim (record c.args.self.now { ends = c.make_place.new.ends; outs = c.make_room.new.outs }) c.args.sent.msg c.in-Sess.sess c.in-Sess.side c.in-Sess.keeper c.args.sent.hop c.in-Sess.is
    c.in_ok-make_room-in-Sess.ensures.room)
    c.make_place.ensures.place
