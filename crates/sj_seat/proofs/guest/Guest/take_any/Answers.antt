use Rattle.std.proofs.Common.{◌≡◌, ◌∙◌, Some, refl, sym}
use Rattle.sj_work.proofs.LaneLaws.{laws}
use Rattle.sj_seat.specs.Ready.{any_rule, first_there}
use Rattle.sj_seat.specs.Views.{calls_of, ends_of, seat_of}
use Rattle.sj_seat.proofs.AfterLemmas.{nothing_done, waited_none}
use Rattle.sj_seat.proofs.AnyLemmas.{any_first, any_ok, cut_off, none_refused}
use Rattle.sj_seat.proofs.CountLemmas.{counted_itself}
use Rattle.sj_seat.proofs.PickLemmas.{allowed_there, there_if}
use Rattle.sj_seat.proofs.guest.Guest.take_any.Goals as goal

pub returns-in-Some-clause-err : goal.returns-in-Some-clause-err
returns-in-Some-clause-err g c =
    let ol = g.met.O.OutLane g.world.𝓛 g.world.𝓜 g.world.𝓡 (λ s x. x, λ x. x, λ x. x, λ x. x) in
    let il = g.met.I.InLane g.world.𝓛 g.world.𝓜 g.world.𝓡 (λ s x. x, λ x. x, λ x. x, λ x. x) in
    let k = laws g.O.OutLane g.I.InLane ol.same_itself ol.same_later il.same_itself il.same_later in
    let a = c.args.self.now in
    λ file rest parties. nothing_done k file (seat_of rest a) (seat_of rest a) a.worker refl

pub take_there-requires-clause-allowed : goal.take_there-requires-clause-allowed
take_there-requires-clause-allowed g c κs within =
    let a = c.args.self.now in
    allowed_there a.worker.node (calls_of a) (ends_of a) c.args.ends.now c.in-Some-first_ready.end (sym c.refused_any.ensures ∙ c.in_default.is) (sym c.first_ready.ensures ∙ c.in-Some-first_ready.is)

pub take_there-requires-clause-there : goal.take_there-requires-clause-there
take_there-requires-clause-there g c κs within =
    there_if c.args.self.now.worker.node c.args.ends.now c.in-Some-first_ready.end (sym c.first_ready.ensures ∙ c.in-Some-first_ready.is)

pub returns-in-Some-first_ready-clause-ok : goal.returns-in-Some-first_ready-clause-ok
returns-in-Some-first_ready-clause-ok g c =
    let ol = g.met.O.OutLane g.world.𝓛 g.world.𝓜 g.world.𝓡 (λ s x. x, λ x. x, λ x. x, λ x. x) in
    let il = g.met.I.InLane g.world.𝓛 g.world.𝓜 g.world.𝓡 (λ s x. x, λ x. x, λ x. x, λ x. x) in
    let k = laws g.O.OutLane g.I.InLane ol.same_itself ol.same_later il.same_itself il.same_later in
    let a = c.args.self.now in
    let h = c.take_there.ensures in
    any_ok k a a c.take_there.new.self (waited_none k a) c.in-Some-first_ready.end c.take_there.result h.ok h.end

pub returns-in-Some-first_ready-clause-first : goal.returns-in-Some-first_ready-clause-first
returns-in-Some-first_ready-clause-first g c =
    let ol = g.met.O.OutLane g.world.𝓛 g.world.𝓜 g.world.𝓡 (λ s x. x, λ x. x, λ x. x, λ x. x) in
    let il = g.met.I.InLane g.world.𝓛 g.world.𝓜 g.world.𝓡 (λ s x. x, λ x. x, λ x. x, λ x. x) in
    let k = laws g.O.OutLane g.I.InLane ol.same_itself ol.same_later il.same_itself il.same_later in
    let a = c.args.self.now in
    let h = c.take_there.ensures in
    let e = c.in-Some-first_ready.end in
    let there : first_there a.worker.node c.args.ends.now ≡ Some e = sym c.first_ready.ensures ∙ c.in-Some-first_ready.is in
    any_first k a a c.take_there.new.self (waited_none k a) e c.args.ends.now c.take_there.result there h.ok h.end

pub returns-in-Some-clause-counts : goal.returns-in-Some-clause-counts
returns-in-Some-clause-counts g c =
    let ol = g.met.O.OutLane g.world.𝓛 g.world.𝓜 g.world.𝓡 (λ s x. x, λ x. x, λ x. x, λ x. x) in
    let il = g.met.I.InLane g.world.𝓛 g.world.𝓜 g.world.𝓡 (λ s x. x, λ x. x, λ x. x, λ x. x) in
    let k = laws g.O.OutLane g.I.InLane ol.same_itself ol.same_later il.same_itself il.same_later in
    counted_itself k c.args.self.now.worker

pub returns-in-Some-first_ready-clause-cause : goal.returns-in-Some-first_ready-clause-cause
returns-in-Some-first_ready-clause-cause g c =
    let a = c.args.self.now in
    let m = c.take_there.new.self in
    let es = c.args.ends.now in
    let e = c.in-Some-first_ready.end in
    let h = c.take_there.ensures in
    let there : first_there a.worker.node es ≡ Some e = sym c.first_ready.ensures ∙ c.in-Some-first_ready.is in
    none_refused (any_rule a es) c.take_there.result es a m (sym c.refused_any.ensures ∙ c.in_default.is) (cut_off c.take_there.result es e a m there h.stays h.cause)
