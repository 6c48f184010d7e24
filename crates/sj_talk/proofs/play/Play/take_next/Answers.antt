use Rattle.std.proofs.lemmas.Result.{on_ok_weaker}
use Rattle.sj_talk.specs.Play.{talk_at}
use Rattle.sj_talk.proofs.ActLemmas.{take_used}
use Rattle.sj_talk.proofs.play.Play.take_next.Goals as goal

pub returns-clause-ok : goal.returns-clause-ok
returns-clause-ok c =
    on_ok_weaker c.take.result (λ used. take_used (talk_at c.args.self.now) (talk_at c.take.new.self) c.args.end.now c.next-msg.result c.next-msg.ensures used) c.take.ensures.ok
