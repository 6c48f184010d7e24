use Rattle.std.proofs.Common.{refl}
use Rattle.sj_remote_seat.proofs.SatLemmas.{still_itself, turns_none, turns_played, turns_then}
use Rattle.sj_remote_seat.specs.Steps.{stays}
use Rattle.sj_remote_seat.proofs.StepsLemmas.{steps_then}
use Rattle.sj_remote_seat.proofs.batch.take_turns.Goals as goal

pub loop-init : goal.loop-init
loop-init g c = record { turns = turns_none c.args.seat c.args.seat (still_itself c.args.seat) refl (λ q other. refl); steps = stays }

pub loop-preserved : goal.loop-preserved
loop-preserved g c =
    let a = c.args.seat in
    let l = c.loop.going in
    let m = c.take_turn.new.guest in
    record {
      turns = turns_then a m c.in_ok-next.next (turns_then a l m c.loop.invariant.turns (turns_played _ _ refl l m c.take_turn.ensures.played)) c.in_ok-next.ensures;
      steps = steps_then g.C.Code.step c.loop.invariant.steps c.take_turn.ensures.steps;
    }

pub returns-then-stays-clause-turns : goal.returns-then-stays-clause-turns
returns-then-stays-clause-turns g c =
    let l = c.loop.going in
    let m = c.take_turn.new.guest in
    turns_then c.args.seat l m c.loop.invariant.turns (turns_played _ _ refl l m c.take_turn.ensures.played)

pub returns-then-not-carried-clause-turns : goal.returns-then-not-carried-clause-turns
returns-then-not-carried-clause-turns g c =
    let a = c.args.seat in
    let l = c.loop.going in
    let m = c.take_turn.new.guest in
    turns_then a m c.in_ok-next.next (turns_then a l m c.loop.invariant.turns (turns_played _ _ refl l m c.take_turn.ensures.played)) c.in_ok-next.ensures
