use Rattle.std.proofs.Common.{Some, ap, sym, ◌∙◌}
use Rattle.sj_engine.specs.Lanes.{pushed_on}
use Rattle.sj_lane.specs.Told.{told_more}
use Rattle.sj_work.proofs.RestLemmas.{takes_later}
use Rattle.sj_remote_run.proofs.PostLemmas.{goes_last, goes_more, goes_none, told_ok, waits_none}
use Rattle.sj_remote_run.proofs.posts.push_out.Goals as goal

pub loop-init : goal.loop-init
loop-init c = let g = goes_none c.args.to c.args.lane.now c.args.node.now in record { goes = g; node = g.node }

pub loop-preserved : goal.loop-preserved
loop-preserved c =
    let g = goes_more c.args.to c.args.lane.now c.loop.lane c.args.node.now c.loop.node c.take_out.new.self c.loop.invariant.goes c.take_out.ensures.rest c.take_out.ensures.others c.push.new.self c.in-Some.frame
    c.in-Some.ensures.some (c.push.ensures.told ∙ ap (told_more (Some (pushed_on c.loop.lane))) (told_ok c.in-Some.frame c.push.result (sym c.is_err.ensures.value ∙ c.if-is_err.false))) in
    record { goes = g; node = g.node }

pub returns-then-is_err-clause-node : goal.returns-then-is_err-clause-node
returns-then-is_err-clause-node c = takes_later c.args.node.now c.loop.node c.take_out.new.self c.loop.invariant.node c.take_out.ensures.rest

pub returns-in-None-clause-node : goal.returns-in-None-clause-node
returns-in-None-clause-node c = takes_later c.args.node.now c.loop.node c.take_out.new.self c.loop.invariant.node c.take_out.ensures.rest

pub returns-in-None-clause-goes : goal.returns-in-None-clause-goes
returns-in-None-clause-goes c =
    goes_last c.args.to c.args.lane.now c.loop.lane c.args.node.now c.loop.node c.take_out.new.self c.loop.invariant.goes c.take_out.ensures.rest c.take_out.ensures.others
    c.in-None.ensures.none c.in-None.ensures.empty

pub returns-in-None-clause-none : goal.returns-in-None-clause-none
returns-in-None-clause-none c = waits_none c.take_out.new.self c.args.to c.in-None.ensures.empty
