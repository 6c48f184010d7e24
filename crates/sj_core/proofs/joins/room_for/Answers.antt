use Rattle.std.proofs.Common.{◌≡◌, length, get_or, ap, arith}
use Rattle.std.specs.Global.{Vec}
use Rattle.sj_end.specs.declared.note.Entry.{Entry}
use Rattle.sj_core.proofs.LastLemmas.{count_all, count_more}
use Rattle.sj_core.proofs.joins.room_for.Goals as goal

pub loop-log-preserved : goal.loop-log-preserved
loop-log-preserved c =
    let log = c.log-item.result in
    let own : c.len.result ≡ length (get_or c.args.logs.now c.loop-log.log-index log).items =
    let same : length log.items ≡ length (get_or c.args.logs.now c.loop-log.log-index log).items = ap (λ (v : Vec Entry). length v.items) c.log-item.is in
    let ok = log.ok in
    let len = c.len.ensures in
    omega (arith, same, ok, len) in
    count_more c.args.logs.now c.loop-log.log-index c.loop-log.entries c.in-Some.sum log c.len.result c.checked_add.result _ c.loop-log-test.true own c.loop-log.invariant c.checked_add.ensures c.in-Some.is

pub returns-clause-room : goal.returns-clause-room
returns-clause-room c =
    let all = count_all c.args.logs.now c.loop-log.log-index (omega (arith, c.loop-log-test.false, c.loop-log.auto.log-index-end)) in
    let so_far = c.loop-log.invariant in
    omega (arith, all, so_far, c.in_ok-lines.ensures.capacity)
