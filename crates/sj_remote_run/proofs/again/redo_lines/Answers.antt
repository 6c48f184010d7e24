use Rattle.std.proofs.lemmas.Result.{on_ok_weaker}
use Rattle.sj_remote_run.proofs.AgainLemmas.{for_more, for_none, for_out}
use Rattle.sj_remote_run.proofs.again.redo_lines.Goals as goal

pub loop-line-init : goal.loop-line-init
loop-line-init c = for_none c.args.lanes.now.outs.items c.args.node.now

pub loop-line-preserved : goal.loop-line-preserved
loop-line-preserved c =
    let outs = c.args.lanes.now.outs.items in
    let later = c.push_all.new.lanes.outs.items in
    let a = c.args.node.now in
    let out = for_out outs a c.loop-line.lanes.outs.items c.loop-line.node c.loop-line.invariant later c.push_all.new.node c.push_all.ensures.node c.in_ok-push_all.ensures.out in
    for_more outs a later c.push_all.new.node out c.redo.new.node _ c.in_ok-redo.ensures.redone

pub returns-clause-went : goal.returns-clause-went
returns-clause-went c =
    on_ok_weaker c.push_all-2.result (for_out c.args.lanes.now.outs.items c.args.node.now c.loop-line.lanes.outs.items c.loop-line.node c.loop-line.invariant c.push_all-2.new.lanes.outs.items c.push_all-2.new.node
    c.push_all-2.ensures.node) c.push_all-2.ensures.out

pub returns-clause-out : goal.returns-clause-out
returns-clause-out c = on_ok_weaker c.push_all-2.result (λ goes. goes.out) c.push_all-2.ensures.out
