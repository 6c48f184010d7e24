use Rattle.sj_forward.proofs.ActLemmas.{requests_so}
use Rattle.sj_forward.proofs.forwarder.Forwarder.request.Goals as goal

pub returns : goal.returns
returns c =
    requests_so c.args.self.now c.begin.new.ends c.put_frame.new.outs c.args.party c.args.to c.opened_number-sess.result c.requires.few c.opened_number-sess.ensures c.begin.ensures c.put_frame.ensures
