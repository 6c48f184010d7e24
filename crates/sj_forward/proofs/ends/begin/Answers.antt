use Rattle.std.proofs.Common.{Some}
use Rattle.sj_forward.proofs.EndsLemmas.{slot_read}
use Rattle.sj_forward.proofs.ends.begin.Goals as goal

pub returns : goal.returns
returns c =
    (slot_read c.args.ends.now.items c.args.end c.index_mut-row.result.now c.index_mut-slot.result.now c.requires.slot c.requires.there c.index_mut-row.ensures.value c.index_mut-slot.ensures.value).written
    c.begin.new.self (Some c.args.hop) c.args.hop _ c.begin.ensures
