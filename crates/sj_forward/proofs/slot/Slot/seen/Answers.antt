use Rattle.std.proofs.Common.{arith}
use Rattle.sj_forward.proofs.SlotLemmas.{seen_so}
use Rattle.sj_forward.proofs.slot.Slot.seen.Goals as goal

pub returns-in-Some-clause-value : goal.returns-in-Some-clause-value
returns-in-Some-clause-value c =
    seen_so c.args.self.now c.args.hop c.index.result.now c.in-Some.kept c.kind_of.result
    (omega (arith, c.if-hop-len.false, c.len.ensures, c.args.self.now.records.ok.0)) c.index.ensures c.in-Some.is c.kind_of.ensures
