use Rattle.std.proofs.Common.{◌∙◌, ◌+◌, ◌<◌, ap, arith, length}
use Rattle.sj_plain.specs.Plain.{world_at}
use Rattle.sj_tool.proofs.SumLemmas.{session_more}
use Rattle.sj_tool.proofs.sums.messages.Goals as goal

pub loop-sess-preserved : goal.loop-sess-preserved
loop-sess-preserved c =
    let zs = (world_at c.args.plain.now).sessions in
    let i = c.loop-sess.sess in
    let within : i < length zs = omega (arith, c.loop-sess-test.true, c.in_ok-sessions.ensures) in
    let first = c.in_ok-add.ensures ∙ ap (λ (xs : _). c.loop-sess.count + length xs) c.sent-first.ensures in
    let second = c.in_ok-count.ensures ∙ ap (λ (xs : _). c.in_ok-add.field-0 + length xs) c.sent-second.ensures in
    session_more zs i c.loop-sess.count c.in_ok-add.field-0 c.in_ok-count.count within c.loop-sess.invariant first second
