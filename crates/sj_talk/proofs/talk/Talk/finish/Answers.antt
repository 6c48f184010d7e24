use Rattle.std.proofs.Common.{subst}
use Rattle.sj_talk.specs.Moves.{GoesOn}
use Rattle.sj_talk.specs.Play.{talk_at}
use Rattle.sj_talk.specs.TalkWorld.{others_acted}
use Rattle.sj_talk.specs.declared.play.Play.{Play}
use Rattle.sj_talk.proofs.MoveLemmas.{goes_by_others, goes_by_some, goes_on}
use Rattle.sj_talk.proofs.talk.Talk.finish.Goals as goal

pub returns-clause-on : goal.returns-clause-on
returns-clause-on c =
    let t = talk_at c.self.inside.play in
    subst (λ (p : Play). GoesOn (talk_at p) (talk_at c.finish.new.self)) c.self.view_is
    (goes_on c.finish.result t (talk_at c.finish.new.self) (others_acted t) (goes_by_others t) (goes_by_some t (talk_at c.finish.new.self)) c.finish.ensures.ok c.finish.ensures.err)
