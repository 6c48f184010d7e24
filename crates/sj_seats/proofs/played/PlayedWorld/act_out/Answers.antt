use Rattle.sj_seats.proofs.played.PlayedWorld.act_out.Goals as goal
use Rattle.sj_seats.proofs.AddedLemmas.{adds_later, adds_none}
use Rattle.sj_seats.proofs.DrainLemmas.{fewer_left, goes_more, goes_none, goes_over, keeps_later, keeps_none, tried_none, tried_some}

pub loop-init : goal.loop-init
loop-init c = record { reached = c.requires.reached; keeps = keeps_none c.args.self.now; adds = adds_none c.args.self.now; goes = goes_none c.args.self.now c.requires.reached.parties }

pub loop-smaller : goal.loop-smaller
loop-smaller c = fewer_left c.loop.self c.acts.new.self c.acts.ensures.reached (tried_some _ c.loop.self c.acts.new.self _ c.if-branch.true c.in_ok-acts.ensures.tried)

pub loop-preserved : goal.loop-preserved
loop-preserved c =
    let kept = c.loop.invariant in
    record {
      reached = c.acts.ensures.reached;
      keeps = keeps_later c.args.self.now c.loop.self c.acts.new.self kept.keeps c.acts.ensures.keeps;
      adds = adds_later c.args.self.now c.loop.self c.acts.new.self kept.keeps kept.adds c.acts.ensures.adds;
      goes = goes_more c.args.self.now c.loop.self c.acts.new.self kept.goes (tried_some _ c.loop.self c.acts.new.self _ c.if-branch.true c.in_ok-acts.ensures.tried);
    }

pub returns-clause-goes : goal.returns-clause-goes
returns-clause-goes c = goes_over c.args.self.now c.loop.self c.acts.new.self _ c.loop.invariant.goes (tried_none _ c.loop.self c.acts.new.self _ c.if-branch.false c.in_ok-acts.ensures.tried)
