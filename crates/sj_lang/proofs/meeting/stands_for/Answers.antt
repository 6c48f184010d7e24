use Rattle.sj_lang.specs.Dual.{dual_of}
use Rattle.sj_lang.proofs.MeetTestLemmas.{as_test}
use Rattle.sj_lang.proofs.meeting.stands_for.Goals as goal

pub returns : goal.returns
returns c = as_test c.meet.result (dual_of c.args.own.now) c.args.wanted.now c.meet.ensures
