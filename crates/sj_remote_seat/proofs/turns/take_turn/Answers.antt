use Rattle.std.proofs.Common.{◌≡◌, None, rules}
use Rattle.sj_seat.specs.Views.{worker_of}
use Rattle.sj_work.proofs.LaneLaws.{laws}
use Rattle.sj_work.specs.Views.{stop_of}
use Rattle.sj_work.specs.Worked.{kept_stop}
use Rattle.sj_seat_run.proofs.PlayedLemmas.{played_rest, played_then}
use Rattle.sj_remote_seat.proofs.turns.take_turn.Goals as goal

pub returns-then-is_some-clause-played : goal.returns-then-is_some-clause-played
returns-then-is_some-clause-played g c =
    let ol = g.met.O.OutLane g.world.𝓛 g.world.𝓜 g.world.𝓡 (λ s x. x, λ x. x, λ x. x, λ x. x) in
    let il = g.met.I.InLane g.world.𝓛 g.world.𝓜 g.world.𝓡 (λ s x. x, λ x. x, λ x. x, λ x. x) in
    let k = laws g.O.OutLane g.I.InLane ol.same_itself ol.same_later il.same_itself il.same_later in
    let h = c.attend.ensures in
    played_rest k c.args.guest.now c.attend.new.self h.went h.keeps h.counts

pub returns-clause-played : goal.returns-clause-played
returns-clause-played g c =
    let ol = g.met.O.OutLane g.world.𝓛 g.world.𝓜 g.world.𝓡 (λ s x. x, λ x. x, λ x. x, λ x. x) in
    let il = g.met.I.InLane g.world.𝓛 g.world.𝓜 g.world.𝓡 (λ s x. x, λ x. x, λ x. x, λ x. x) in
    let k = laws g.O.OutLane g.I.InLane ol.same_itself ol.same_later il.same_itself il.same_later in
    let h = c.attend.ensures in
    let goes : c.attend.result ≡ None = search rules in
    let kept : kept_stop (stop_of (worker_of c.attend.new.self)) ≡ None = h.none goes in
    played_then k c.args.guest.now c.attend.new.self c.ask_on.new.guest kept (played_rest k c.args.guest.now c.attend.new.self h.went h.keeps h.counts) c.ask_on.ensures.played
