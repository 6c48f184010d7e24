use Rattle.std.proofs.Common.{refl}
use Rattle.sj_forward.proofs.SlotLemmas.{takes_so}
use Rattle.sj_forward.proofs.slot.Slot.take_first.Goals as goal

pub returns-clause-takes : goal.returns-clause-takes
returns-clause-takes c = λ h held.
    takes_so c.args.self.now _ c.in-Some.hop c.index_mut-place.result.now c.take_from_record.new.place h _ c.in-Some.is c.index_mut-place.ensures.value held c.take_from_record.ensures refl refl
