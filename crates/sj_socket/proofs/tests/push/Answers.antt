use Rattle.std.proofs.Common.{arith}
use Rattle.sj_socket.proofs.PushLemmas.{still_joined, still_square}
use Rattle.sj_socket.proofs.tests.push.Goals as goal

pub returns-clause-square : goal.returns-clause-square
returns-clause-square c =
    let size = c.args.lanes.now.ok in
    still_square c.args.lanes.now.items c.args.from c.args.to c.index_mut.result.now c.index_mut-2.result.now c.push.new.self (omega arith) (omega arith)
    c.requires.square c.index_mut.ensures.value c.index_mut-2.ensures.value

pub returns-clause-joined : goal.returns-clause-joined
returns-clause-joined c =
    let size = c.args.lanes.now.ok in
    still_joined c.args.lanes.now.items c.args.from c.args.to c.index_mut.result.now c.index_mut-2.result.now c.push.new.self (omega arith) (omega arith)
    c.requires.square c.index_mut.ensures.value c.index_mut-2.ensures.value c.push.ensures.link c.requires.joined
