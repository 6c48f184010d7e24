use Rattle.std.proofs.Common.{refl}
use Rattle.sj_work.proofs.LaneLaws.{laws}
use Rattle.sj_seat.specs.Views.{seat_of}
use Rattle.sj_seat.proofs.AfterLemmas.{nothing_done}
use Rattle.sj_seat.proofs.CountLemmas.{counted_itself}
use Rattle.sj_seat.proofs.guest.Guest.look.Goals as goal

pub returns-then-is_some-clause-went : goal.returns-then-is_some-clause-went
returns-then-is_some-clause-went g c =
    let ol = g.met.O.OutLane g.world.𝓛 g.world.𝓜 g.world.𝓡 (λ s x. x, λ x. x, λ x. x, λ x. x) in
    let il = g.met.I.InLane g.world.𝓛 g.world.𝓜 g.world.𝓡 (λ s x. x, λ x. x, λ x. x, λ x. x) in
    let k = laws g.O.OutLane g.I.InLane ol.same_itself ol.same_later il.same_itself il.same_later in
    let a = c.args.self.now in
    λ file rest parties. nothing_done k file (seat_of rest a) (seat_of rest a) a.worker refl

pub returns-then-is_some-clause-counts : goal.returns-then-is_some-clause-counts
returns-then-is_some-clause-counts g c =
    let ol = g.met.O.OutLane g.world.𝓛 g.world.𝓜 g.world.𝓡 (λ s x. x, λ x. x, λ x. x, λ x. x) in
    let il = g.met.I.InLane g.world.𝓛 g.world.𝓜 g.world.𝓡 (λ s x. x, λ x. x, λ x. x, λ x. x) in
    let k = laws g.O.OutLane g.I.InLane ol.same_itself ol.same_later il.same_itself il.same_later in
    counted_itself k c.args.self.now.worker
