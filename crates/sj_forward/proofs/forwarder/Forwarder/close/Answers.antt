use Rattle.sj_forward.proofs.ActLemmas.{closes}
use Rattle.sj_forward.proofs.SlotLemmas.{some_of}
use Rattle.sj_forward.proofs.forwarder.Forwarder.close.Goals as goal

pub returns : goal.returns
returns c =
    let it = some_of _ c.requires in
    closes c.args.self.now c.close.new.ends c.args.end it.0 it.1 (c.close.ensures it.0 it.1)
