use Rattle.std.proofs.Common.{◌+◌, List, map, drop, Bool, subst}
use Rattle.sj_table.specs.declared.table.Spot.{Spot}
use Rattle.sj_rules.specs.Record.{Mail}
use Rattle.sj_end.specs.Views.{body_at, deferred_at, post_at}
use Rattle.sj_handover.specs.Working.{IsTrueThen, Works}
use Rattle.sj_handover.proofs.WorkLemmas.{IsWorking, rest_at, works_next}
use Rattle.sj_handover.proofs.deferrals.work_off.Goals as goal

pub work-requires-clause-counted : goal.work-requires-clause-counted
work-requires-clause-counted c = c.frame-item.result.counted

pub loop-frame-preserved : goal.loop-frame-preserved
loop-frame-preserved c =
    let ds = c.args.deferred.now in
    let rest = map deferred_at (drop (c.loop-frame.frame-index + 1) ds) in
    let at = rest_at ds c.loop-frame.frame-index c.frame-item.result c.loop-frame-test.true c.frame-item.is in
    let P : List (Mail Spot) → Type 0 =
    λ ms. IsWorking c.args.end.now c.loop-frame.tally c.loop-frame.untaken.items (map deferred_at ds) ms (map post_at c.args.posts.now.items) (map post_at c.loop-frame.posts.items) in
    let W = Works c.args.end.now c.loop-frame.tally c.work.new.tally c.loop-frame.untaken.items c.work.new.untaken.items c.frame-item.result.from (body_at c.frame-item.result.body) (map post_at c.loop-frame.posts.items) (map post_at c.work.new.posts.items) in
    let F : Bool → Type 0 = λ b. IsTrueThen b W in
    let works : W = subst F c.if-not-branch.false c.in_ok-work.ensures.ok in
    record {
      working = works_next c.args.end.now c.loop-frame.tally c.work.new.tally c.loop-frame.untaken.items c.work.new.untaken.items (map deferred_at ds) (deferred_at c.frame-item.result) rest
          (map post_at c.args.posts.now.items) (map post_at c.loop-frame.posts.items) (map post_at c.work.new.posts.items) (subst P at c.loop-frame.invariant.working) works;
      base = c.in_ok-work.ensures.base;
      upto = c.in_ok-work.ensures.upto;
      room = c.in_ok-work.ensures.room;
    }
