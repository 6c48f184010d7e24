use Rattle.std.proofs.Common.{◌+◌, Err, ap, arith}
use Rattle.sj_end.specs.declared.note.Event.TheVariants as events
use Rattle.sj_node.specs.Node.{act_of, clock_of, note_for}
use Rattle.uses.proofs.HandLemmas.{noted_once, stopped_so}
use Rattle.uses.proofs.by_hand.act_on.Goals as goal

pub loop-acts-preserved : goal.loop-acts-preserved
loop-acts-preserved c =
    let node = c.loop-acts.node in
    let once = noted_once node c.act.new.self (act_of node) (clock_of node + 1) events.Act (note_for node) c.in-Ok.ensures.ok in
    let so_far = c.loop-acts.invariant in
    omega (arith, once, so_far)

pub returns-in-Err-clause-cause : goal.returns-in-Err-clause-cause
returns-in-Err-clause-cause c =
    let e = c.in-Err.ensures in
    stopped_so c.loop-acts.node c.act.new.self c.in-Err.halt e.err (λ h. e.unfit (ap Err h)) (λ h. e.ended.0 (ap Err h)) (λ h. e.at_limit.0 (ap Err h)) (λ h. e.waits.0 (ap Err h))
