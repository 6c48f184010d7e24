use Rattle.sj_lang.proofs.MeetTestLemmas.{as_test}
use Rattle.sj_lang.proofs.meeting.meets.Goals as goal

pub returns : goal.returns
returns c = as_test c.meet.result c.args.a.now c.args.b.now c.meet.ensures
