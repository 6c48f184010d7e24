use Rattle.std.proofs.Common.{◌∙◌, sym, arith}
use Rattle.sj_run.proofs.HandedLemmas.{stay_later, takes_later, taken_more}
use Rattle.sj_run.proofs.handed.hand_from.Goals as goal

pub returns-in_err-hand_link-clause-lanes : goal.returns-in_err-hand_link-clause-lanes
returns-in_err-hand_link-clause-lanes g c =
    stay_later g.L.Out.OutLane g.L.In.InLane g.L.Links.joined c.args.lanes.now.items c.loop-to.lanes.items c.hand_link.new.lanes.items c.loop-to.invariant.lanes c.hand_link.ensures.lanes

pub returns-then-not-branch-clause-lanes : goal.returns-then-not-branch-clause-lanes
returns-then-not-branch-clause-lanes g c =
    stay_later g.L.Out.OutLane g.L.In.InLane g.L.Links.joined c.args.lanes.now.items c.loop-to.lanes.items c.hand_link.new.lanes.items c.loop-to.invariant.lanes c.hand_link.ensures.lanes

pub loop-to-preserved : goal.loop-to-preserved
loop-to-preserved g c =
    let h = c.hand_link in
    let i = c.loop-to.invariant in
    record {
      lanes = stay_later g.L.Out.OutLane g.L.In.InLane g.L.Links.joined c.args.lanes.now.items c.loop-to.lanes.items h.new.lanes.items i.lanes h.ensures.lanes;
      tells = h.ensures.tells ∙ i.tells;
      faults = h.ensures.faults ∙ i.faults;
      telling = λ lt. sym i.tells ∙ c.in_ok-hand_link.ensures.telling c.if-not-branch.false;
      same = takes_later c.args.node c.loop-to.own h.new.node i.same (c.in_ok-hand_link.ensures.same c.if-not-branch.false);
      taken =
          taken_more g.L.Out.OutLane.pushed g.L.In.InLane.popped g.L.Out.OutLane.vain g.L.In.InLane.vain c.args.lanes.now.items c.loop-to.lanes.items i.lanes.lists c.args.from c.loop-to.to
          c.args.node c.loop-to.own h.new.node i.taken i.later (c.in_ok-hand_link.ensures.taken c.if-not-branch.false) (c.in_ok-hand_link.ensures.beside c.if-not-branch.false);
      later = λ q le. c.in_ok-hand_link.ensures.beside c.if-not-branch.false q (λ is. omega (arith, is, le)) ∙ i.later q (omega (arith, le));
    }

pub returns-clause-handed : goal.returns-clause-handed
returns-clause-handed g c =
    let i = c.loop-to.invariant in
    record {
      same = i.same;
      taken = λ q lt. i.taken q (omega (arith, lt, c.loop-to-test.false, c.requires.count));
      beyond = λ q le. i.later q (omega (arith, le, c.loop-to.auto.to-end, c.requires.count));
      plain = c.gives.ensures.no c.if-gives.false;
    }
