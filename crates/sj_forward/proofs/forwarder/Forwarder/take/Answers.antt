use Rattle.std.proofs.Common.{refl}
use Rattle.sj_forward.proofs.TakeLemmas.{claim_next, takes_so}
use Rattle.sj_forward.proofs.FoundLemmas.{held_somewhere}
use Rattle.sj_forward.proofs.SlotLemmas.{some_of}
use Rattle.sj_forward.proofs.forwarder.Forwarder.take.Goals as goal

pub take_in-requires : goal.take_in-requires
take_in-requires c =
    let it = some_of _ (held_somewhere c.args.self.now.ends.items c.args.end c.requires.fits) in
    claim_next c.args.self.now (record c.args.self.now { ends = c.take_first-sent.new.ends }) c.args.end it.0 c.take_first-sent.result c.requires.room it.1 refl
    (c.take_first-sent.ensures.takes it.0 it.1) c.take_first-sent.ensures.places

pub returns : goal.returns
returns c =
    let it = some_of _ (held_somewhere c.args.self.now.ends.items c.args.end c.requires.fits) in
    takes_so c.args.self.now c.take_first-sent.new.ends c.args.end it.0 c.take_first-sent.result c.take_in.new.self it.1 (c.take_first-sent.ensures.takes it.0 it.1) c.take_in.ensures
