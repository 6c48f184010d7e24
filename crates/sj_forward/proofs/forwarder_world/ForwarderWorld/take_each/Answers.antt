use Rattle.std.proofs.Common.{◌<◌, length, ◌∙◌, arith}
use Rattle.sj_forward.proofs.forwarder_world.ForwarderWorld.take_each.Goals as goal
use Rattle.sj_forward.proofs.RoundLemmas.{goes_each}
use Rattle.sj_forward.specs.ForwarderWorld.{forwarders_in}
use Rattle.sj_forward.proofs.BreakLemmas.{first_lane, left_lane}
use Rattle.sj_forward.proofs.ResultLemmas.{or_err}

pub loop-from-preserved : goal.loop-from-preserved
loop-from-preserved c =
    let kept = c.loop-from.invariant in
    let lt : c.loop-from.from < length (forwarders_in c.args.self.now) = omega (arith, c.loop-from-test.true, c.len-from-end.ensures) in
    record {
      reached = c.take_all.ensures.reached;
      file = c.take_all.ensures.file ∙ kept.file;
      count = c.take_all.ensures.count ∙ kept.count;
      goes = goes_each c.args.self.now c.loop-from.self c.take_all.new.self c.args.party c.loop-from.from kept.file kept.goes c.in_ok-take_all.ensures.ok;
      left = left_lane _ c.args.self.now c.loop-from.self c.take_all.new.self c.args.party (length (forwarders_in c.args.self.now)) c.loop-from.from kept.file lt kept.left c.in_ok-take_all.ensures.ok;
    }

pub returns-in_err-take_all-clause-err : goal.returns-in_err-take_all-clause-err
returns-in_err-take_all-clause-err c =
    let kept = c.loop-from.invariant in
    let lt : c.loop-from.from < length (forwarders_in c.args.self.now) = omega (arith, c.loop-from-test.true, c.len-from-end.ensures) in
    or_err c.from_residual.result
    (first_lane _ c.args.self.now c.loop-from.self c.take_all.new.self c.args.party (length (forwarders_in c.args.self.now)) c.loop-from.from kept.file lt kept.left c.in_err-take_all.ensures.err)
