use Rattle.std.proofs.Common.{ap, arith}
use Rattle.std.proofs.lemmas.Result.{on_err_weaker, on_ok_weaker}
use Rattle.sj_talk.specs.Play.{talk_at, value_at}
use Rattle.sj_talk.specs.TalkWorld.{TalkWorld}
use Rattle.sj_talk.proofs.ActLemmas.{value_noted, value_used}
use Rattle.sj_talk.proofs.play.Play.send_value.Goals as goal

pub send-requires-clause-room : goal.send-requires-clause-room
send-requires-clause-room c = omega (arith, c.requires.room, ap (λ (t : TalkWorld). t.lines) c.in_ok-msg.ensures.ok)

pub returns-clause-ok : goal.returns-clause-ok
returns-clause-ok c =
    on_ok_weaker c.send.result
    (λ used. value_used (talk_at c.args.self.now) (talk_at c.message.new.self) (talk_at c.send.new.self) c.args.end.now (value_at c.args.value.now) c.in_ok-msg.msg c.in_ok-msg.ensures.message c.in_ok-msg.ensures.ok used)
    c.send.ensures.ok

pub returns-clause-err : goal.returns-clause-err
returns-clause-err c =
    on_err_weaker c.send.result
    (λ same. value_noted (talk_at c.args.self.now) (talk_at c.message.new.self) (talk_at c.send.new.self) (value_at c.args.value.now) c.in_ok-msg.ensures.ok same)
    c.send.ensures.err
