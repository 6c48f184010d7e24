use Rattle.std.proofs.lemmas.Bool.Decides.{same_from_decides}
use Rattle.sj_lang.specs.MeetTests.{meets}
use Rattle.sj_lang.proofs.MeetTestLemmas.{meets-Decides}
use Rattle.sj_check.proofs.places.do_meet.Goals as goal

pub returns : goal.returns
returns c = same_from_decides c.meets.result (meets c.args.a.now c.args.b.now) c.meets.ensures (meets-Decides c.args.a.now c.args.b.now)
