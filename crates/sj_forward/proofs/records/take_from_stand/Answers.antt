use Rattle.sj_forward.proofs.SlotLemmas.{leaves}
use Rattle.sj_forward.proofs.records.take_from_stand.Goals as goal

pub returns : goal.returns
returns c = λ hop behind h held. leaves c.args.stand.now c.in-Held.untaken c.pop_front.new.self c.in-Some.sent hop behind h c.in-Held.is c.in-Some.ensures.items held
