use Rattle.std.proofs.Common.{subst}
use Rattle.sj_talk.specs.Moves.{GoesOn}
use Rattle.sj_talk.specs.Play.{talk_at}
use Rattle.sj_talk.specs.Doing.{after_line}
use Rattle.sj_talk.specs.TalkWorld.{others_acted}
use Rattle.sj_talk.specs.declared.play.Play.{Play}
use Rattle.sj_talk.proofs.MoveLemmas.{goes_by_line, goes_on, goes_unsaid}
use Rattle.sj_talk.proofs.talk.Talk.line.Goals as goal

pub returns-clause-on : goal.returns-clause-on
returns-clause-on c =
    let t = talk_at c.self.inside.play in
    subst (λ (p : Play). GoesOn (talk_at p) (talk_at c.line.new.self)) c.self.view_is
    (goes_on c.line.result t (talk_at c.line.new.self) (after_line (others_acted t) c.args.line.now) (goes_by_line t c.args.line.now) (goes_unsaid t (talk_at c.line.new.self) c.args.line.now) c.line.ensures.ok c.line.ensures.err)
