use Rattle.std.proofs.Common.{◌≤◌, length, arith}
use Rattle.sj_seats.specs.Played.{nodes_in}
use Rattle.sj_seats.proofs.played.PlayedWorld.round.Goals as goal
use Rattle.sj_seats.proofs.AddedLemmas.{adds_later, adds_none}
use Rattle.sj_seats.proofs.DrainLemmas.{goes_none, goes_still, goes_then, idle_more, keeps_later, keeps_none}

pub loop-party-init : goal.loop-party-init
loop-party-init c = record {
  reached = c.requires.reached;
  keeps = keeps_none c.args.self.now;
  adds = adds_none c.args.self.now;
  goes = goes_still c.args.self.now c.args.self.now _ _ (goes_none c.args.self.now c.requires.reached.parties) (λ t p lt. absurd (omega (arith, lt)));
}

pub loop-party-preserved : goal.loop-party-preserved
loop-party-preserved c =
    let kept = c.loop-party.invariant in
    record {
      reached = c.turn.ensures.reached;
      keeps = keeps_later c.args.self.now c.loop-party.self c.turn.new.self kept.keeps c.turn.ensures.keeps;
      adds = adds_later c.args.self.now c.loop-party.self c.turn.new.self kept.keeps kept.adds c.turn.ensures.adds;
      goes = goes_then c.args.self.now c.loop-party.self c.turn.new.self _ _ _ kept.goes c.in_ok-turn.ensures.goes
          (λ rests before here. idle_more c.loop-party.self c.turn.new.self c.loop-party.party rests before here);
    }

pub returns-clause-goes : goal.returns-clause-goes
returns-clause-goes c =
    let kept = c.loop-party.invariant in
    let last = c.loop-party.self in
    let all : length (nodes_in last) ≤ c.loop-party.party = omega (arith, c.loop-party-test.false, c.len-party-end.ensures, kept.keeps.count) in
    goes_still c.args.self.now last _ _ kept.goes (λ idle p lt. idle p (omega (arith, lt, all)))
