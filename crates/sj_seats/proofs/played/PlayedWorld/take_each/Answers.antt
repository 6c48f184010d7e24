use Rattle.std.proofs.Common.{arith}
use Rattle.sj_seats.proofs.played.PlayedWorld.take_each.Goals as goal
use Rattle.sj_seats.proofs.AddedLemmas.{adds_later, adds_none}
use Rattle.sj_seats.proofs.DrainLemmas.{goes_none, goes_still, goes_then, keeps_later, keeps_none, lanes_more}

pub loop-from-init : goal.loop-from-init
loop-from-init c = record {
  reached = c.requires.reached;
  keeps = keeps_none c.args.self.now;
  adds = adds_none c.args.self.now;
  goes = goes_still c.args.self.now c.args.self.now _ _ (goes_none c.args.self.now c.requires.reached.parties) (λ t from lt. absurd (omega (arith, lt)));
}

pub loop-from-preserved : goal.loop-from-preserved
loop-from-preserved c =
    let kept = c.loop-from.invariant in
    record {
      reached = c.take_all.ensures.reached;
      keeps = keeps_later c.args.self.now c.loop-from.self c.take_all.new.self kept.keeps c.take_all.ensures.keeps;
      adds = adds_later c.args.self.now c.loop-from.self c.take_all.new.self kept.keeps kept.adds c.take_all.ensures.adds;
      goes = goes_then c.args.self.now c.loop-from.self c.take_all.new.self _ _ _ kept.goes c.in_ok-take_all.ensures.goes
          (λ rests before here. lanes_more c.loop-from.self c.take_all.new.self c.args.party c.loop-from.from rests before here);
    }
