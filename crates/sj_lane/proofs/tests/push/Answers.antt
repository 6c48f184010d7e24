use Rattle.std.proofs.Common.{arith}
use Rattle.sj_lane.proofs.PushLemmas.{pushed_there}
use Rattle.sj_lane.proofs.tests.push.Goals as goal

pub returns-clause-square : goal.returns-clause-square
returns-clause-square c =
    let size = c.args.lanes.now.ok in
    let all = pushed_there c.args.lanes.now.items c.args.from c.args.to c.index_mut.result.now c.index_mut-2.result.now c.push.new.self (omega arith) (omega arith)
    c.requires.square c.requires.joined c.index_mut.ensures.value c.index_mut-2.ensures.value c.push.ensures.link in
    all.0

pub returns-clause-joined : goal.returns-clause-joined
returns-clause-joined c =
    let size = c.args.lanes.now.ok in
    let all = pushed_there c.args.lanes.now.items c.args.from c.args.to c.index_mut.result.now c.index_mut-2.result.now c.push.new.self (omega arith) (omega arith)
    c.requires.square c.requires.joined c.index_mut.ensures.value c.index_mut-2.ensures.value c.push.ensures.link in
    all.1
