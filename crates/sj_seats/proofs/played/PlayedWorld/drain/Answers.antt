use Rattle.sj_seats.proofs.played.PlayedWorld.drain.Goals as goal
use Rattle.sj_seats.proofs.AddedLemmas.{adds_later, adds_none}
use Rattle.sj_seats.proofs.DrainLemmas.{fewer_left, keeps_later, keeps_none}

pub loop-init : goal.loop-init
loop-init c = record { reached = c.requires.reached; keeps = keeps_none c.args.self.now; adds = adds_none c.args.self.now }

pub loop-smaller : goal.loop-smaller
loop-smaller c = fewer_left c.loop.self c.round_goes.new.self c.round_goes.ensures.reached (c.in_ok-round_goes.ensures.more c.if-branch.true)

pub loop-preserved : goal.loop-preserved
loop-preserved c = record {
  reached = c.round_goes.ensures.reached;
  keeps = keeps_later c.args.self.now c.loop.self c.round_goes.new.self c.loop.invariant.keeps c.round_goes.ensures.keeps;
  adds = adds_later c.args.self.now c.loop.self c.round_goes.new.self c.loop.invariant.keeps c.loop.invariant.adds c.round_goes.ensures.adds;
}
