use Rattle.sj_forward.proofs.TakeLemmas.{claim_place, claims}
use Rattle.sj_forward.proofs.forwarder.Forwarder.take_in.Goals as goal

pub begin-requires : goal.begin-requires
begin-requires c = claim_place c.args.self.now c.args.sent.msg c.in-Sess.sess c.in-Sess.side c.in-Sess.keeper c.args.sent.hop c.in-Sess.is c.requires

pub returns-in-Sess : goal.returns-in-Sess
returns-in-Sess c = claims c.args.self.now c.begin.new.ends c.put_frame.new.outs c.args.sent.msg c.in-Sess.sess c.in-Sess.side c.in-Sess.keeper c.args.sent.hop c.in-Sess.is c.begin.ensures c.put_frame.ensures
