use Rattle.std.proofs.Common.{◌≡◌, ◌∷◌, Err}
use Rattle.sj_work.proofs.LaneLaws.{laws}
use Rattle.sj_seat.specs.Wishes.{open_wished}
use Rattle.sj_seat.specs.declared.refusal.SeatRefusal.TheVariants as refusals
use Rattle.sj_seat.proofs.AfterLemmas.{bounds_later, waited_bounds, waited_ends, waited_err, waited_keeps, waited_more, waited_none, waited_ok, waited_then, waited_vain}
use Rattle.sj_seat.proofs.CountLemmas.{counted_later}
use Rattle.sj_seat.proofs.guest.Guest.act_open.Goals as goal

pub loop-init : goal.loop-init
loop-init g c =
    let ol = g.met.O.OutLane g.world.𝓛 g.world.𝓜 g.world.𝓡 (λ s x. x, λ x. x, λ x. x, λ x. x) in
    let il = g.met.I.InLane g.world.𝓛 g.world.𝓜 g.world.𝓡 (λ s x. x, λ x. x, λ x. x, λ x. x) in
    let k = laws g.O.OutLane g.I.InLane ol.same_itself ol.same_later il.same_itself il.same_later in
    waited_none k c.args.self.now

pub returns-then-not-is_waiting-clause-ok : goal.returns-then-not-is_waiting-clause-ok
returns-then-not-is_waiting-clause-ok g c =
    let ol = g.met.O.OutLane g.world.𝓛 g.world.𝓜 g.world.𝓡 (λ s x. x, λ x. x, λ x. x, λ x. x) in
    let il = g.met.I.InLane g.world.𝓛 g.world.𝓜 g.world.𝓡 (λ s x. x, λ x. x, λ x. x, λ x. x) in
    let k = laws g.O.OutLane g.I.InLane ol.same_itself ol.same_later il.same_itself il.same_later in
    let h = c.attempt_open-answer.ensures in
    λ file rest parties. waited_ok k c.args.self.now c.loop.self c.attempt_open-answer.new.self c.attempt_open-answer.result file (open_wished c.args.wish ∷ rest) rest c.loop.invariant parties (h.ok file rest)

pub returns-then-not-is_waiting-clause-err : goal.returns-then-not-is_waiting-clause-err
returns-then-not-is_waiting-clause-err g c =
    let ol = g.met.O.OutLane g.world.𝓛 g.world.𝓜 g.world.𝓡 (λ s x. x, λ x. x, λ x. x, λ x. x) in
    let il = g.met.I.InLane g.world.𝓛 g.world.𝓜 g.world.𝓡 (λ s x. x, λ x. x, λ x. x, λ x. x) in
    let k = laws g.O.OutLane g.I.InLane ol.same_itself ol.same_later il.same_itself il.same_later in
    let h = c.attempt_open-answer.ensures in
    λ file rest parties. waited_err k c.args.self.now c.loop.self c.attempt_open-answer.new.self c.attempt_open-answer.result file rest rest c.loop.invariant parties (h.err file rest)

pub returns-in-Some-clause-err : goal.returns-in-Some-clause-err
returns-in-Some-clause-err g c =
    let ol = g.met.O.OutLane g.world.𝓛 g.world.𝓜 g.world.𝓡 (λ s x. x, λ x. x, λ x. x, λ x. x) in
    let il = g.met.I.InLane g.world.𝓛 g.world.𝓜 g.world.𝓡 (λ s x. x, λ x. x, λ x. x, λ x. x) in
    let k = laws g.O.OutLane g.I.InLane ol.same_itself ol.same_later il.same_itself il.same_later in
    let a = c.args.self.now in
    let l = c.loop.self in
    let m = c.attempt_open-answer.new.self in
    let r = c.attempt_open-answer.result in
    let h = c.attempt_open-answer.ensures in
    let waiting : r ≡ Err refusals.Waiting = c.is_waiting.ensures c.if-not-is_waiting.false in
    let vain = waited_vain k a l m r refusals.Waiting waiting c.loop.invariant h.keeps h.rests h.bounds h.counts (h.waits waiting) h.err in
    λ file rest parties. waited_then k a m c.wait.new.self file rest rest vain parties (c.wait.ensures.went file rest)

pub loop-preserved : goal.loop-preserved
loop-preserved g c =
    let ol = g.met.O.OutLane g.world.𝓛 g.world.𝓜 g.world.𝓡 (λ s x. x, λ x. x, λ x. x, λ x. x) in
    let il = g.met.I.InLane g.world.𝓛 g.world.𝓜 g.world.𝓡 (λ s x. x, λ x. x, λ x. x, λ x. x) in
    let k = laws g.O.OutLane g.I.InLane ol.same_itself ol.same_later il.same_itself il.same_later in
    let a = c.args.self.now in
    let l = c.loop.self in
    let m = c.attempt_open-answer.new.self in
    let r = c.attempt_open-answer.result in
    let h = c.attempt_open-answer.ensures in
    let waiting : r ≡ Err refusals.Waiting = c.is_waiting.ensures c.if-not-is_waiting.false in
    let vain = waited_vain k a l m r refusals.Waiting waiting c.loop.invariant h.keeps h.rests h.bounds h.counts (h.waits waiting) h.err in
    let w = c.wait.ensures in
    waited_more k a m c.wait.new.self vain w.keeps w.rests w.bounds w.counts (w.none c.in_default.is) w.went

pub returns-clause-ok : goal.returns-clause-ok
returns-clause-ok g c =
    let ol = g.met.O.OutLane g.world.𝓛 g.world.𝓜 g.world.𝓡 (λ s x. x, λ x. x, λ x. x, λ x. x) in
    let il = g.met.I.InLane g.world.𝓛 g.world.𝓜 g.world.𝓡 (λ s x. x, λ x. x, λ x. x, λ x. x) in
    let k = laws g.O.OutLane g.I.InLane ol.same_itself ol.same_later il.same_itself il.same_later in
    let h = c.attempt_open.ensures in
    λ file rest parties. waited_ok k c.args.self.now c.loop.self c.attempt_open.new.self c.attempt_open.result file (open_wished c.args.wish ∷ rest) rest c.loop.invariant parties (h.ok file rest)

pub returns-clause-err : goal.returns-clause-err
returns-clause-err g c =
    let ol = g.met.O.OutLane g.world.𝓛 g.world.𝓜 g.world.𝓡 (λ s x. x, λ x. x, λ x. x, λ x. x) in
    let il = g.met.I.InLane g.world.𝓛 g.world.𝓜 g.world.𝓡 (λ s x. x, λ x. x, λ x. x, λ x. x) in
    let k = laws g.O.OutLane g.I.InLane ol.same_itself ol.same_later il.same_itself il.same_later in
    let h = c.attempt_open.ensures in
    λ file rest parties. waited_err k c.args.self.now c.loop.self c.attempt_open.new.self c.attempt_open.result file rest rest c.loop.invariant parties (h.err file rest)

pub returns-then-not-is_waiting-clause-counts : goal.returns-then-not-is_waiting-clause-counts
returns-then-not-is_waiting-clause-counts g c =
    let ol = g.met.O.OutLane g.world.𝓛 g.world.𝓜 g.world.𝓡 (λ s x. x, λ x. x, λ x. x, λ x. x) in
    let il = g.met.I.InLane g.world.𝓛 g.world.𝓜 g.world.𝓡 (λ s x. x, λ x. x, λ x. x, λ x. x) in
    let k = laws g.O.OutLane g.I.InLane ol.same_itself ol.same_later il.same_itself il.same_later in
    counted_later k c.args.self.now.worker c.loop.self.worker c.attempt_open-answer.new.self.worker c.loop.invariant.counts c.attempt_open-answer.ensures.counts

pub returns-in-Some-clause-counts : goal.returns-in-Some-clause-counts
returns-in-Some-clause-counts g c =
    let ol = g.met.O.OutLane g.world.𝓛 g.world.𝓜 g.world.𝓡 (λ s x. x, λ x. x, λ x. x, λ x. x) in
    let il = g.met.I.InLane g.world.𝓛 g.world.𝓜 g.world.𝓡 (λ s x. x, λ x. x, λ x. x, λ x. x) in
    let k = laws g.O.OutLane g.I.InLane ol.same_itself ol.same_later il.same_itself il.same_later in
    let so = counted_later k c.args.self.now.worker c.loop.self.worker c.attempt_open-answer.new.self.worker c.loop.invariant.counts c.attempt_open-answer.ensures.counts in
    counted_later k c.args.self.now.worker c.attempt_open-answer.new.self.worker c.wait.new.self.worker so c.wait.ensures.counts

pub returns-clause-counts : goal.returns-clause-counts
returns-clause-counts g c =
    let ol = g.met.O.OutLane g.world.𝓛 g.world.𝓜 g.world.𝓡 (λ s x. x, λ x. x, λ x. x, λ x. x) in
    let il = g.met.I.InLane g.world.𝓛 g.world.𝓜 g.world.𝓡 (λ s x. x, λ x. x, λ x. x, λ x. x) in
    let k = laws g.O.OutLane g.I.InLane ol.same_itself ol.same_later il.same_itself il.same_later in
    counted_later k c.args.self.now.worker c.loop.self.worker c.attempt_open.new.self.worker c.loop.invariant.counts c.attempt_open.ensures.counts

pub returns-then-not-is_waiting-clause-ends : goal.returns-then-not-is_waiting-clause-ends
returns-then-not-is_waiting-clause-ends g c =
    let ol = g.met.O.OutLane g.world.𝓛 g.world.𝓜 g.world.𝓡 (λ s x. x, λ x. x, λ x. x, λ x. x) in
    let il = g.met.I.InLane g.world.𝓛 g.world.𝓜 g.world.𝓡 (λ s x. x, λ x. x, λ x. x, λ x. x) in
    let k = laws g.O.OutLane g.I.InLane ol.same_itself ol.same_later il.same_itself il.same_later in
    waited_ends k c.args.self.now c.loop.self c.attempt_open-answer.new.self (open_wished c.args.wish) c.attempt_open-answer.result c.loop.invariant c.attempt_open-answer.ensures.ends

pub returns-clause-ends : goal.returns-clause-ends
returns-clause-ends g c =
    let ol = g.met.O.OutLane g.world.𝓛 g.world.𝓜 g.world.𝓡 (λ s x. x, λ x. x, λ x. x, λ x. x) in
    let il = g.met.I.InLane g.world.𝓛 g.world.𝓜 g.world.𝓡 (λ s x. x, λ x. x, λ x. x, λ x. x) in
    let k = laws g.O.OutLane g.I.InLane ol.same_itself ol.same_later il.same_itself il.same_later in
    waited_ends k c.args.self.now c.loop.self c.attempt_open.new.self (open_wished c.args.wish) c.attempt_open.result c.loop.invariant c.attempt_open.ensures.ends

pub returns-then-not-is_waiting-clause-cause : goal.returns-then-not-is_waiting-clause-cause
returns-then-not-is_waiting-clause-cause g c = c.attempt_open-answer.ensures.cause

pub returns-then-not-is_waiting-clause-opened : goal.returns-then-not-is_waiting-clause-opened
returns-then-not-is_waiting-clause-opened g c = c.attempt_open-answer.ensures.opened

pub returns-then-not-is_waiting-clause-keeps : goal.returns-then-not-is_waiting-clause-keeps
returns-then-not-is_waiting-clause-keeps g c =
    let ol = g.met.O.OutLane g.world.𝓛 g.world.𝓜 g.world.𝓡 (λ s x. x, λ x. x, λ x. x, λ x. x) in
    let il = g.met.I.InLane g.world.𝓛 g.world.𝓜 g.world.𝓡 (λ s x. x, λ x. x, λ x. x, λ x. x) in
    let k = laws g.O.OutLane g.I.InLane ol.same_itself ol.same_later il.same_itself il.same_later in
    waited_keeps k c.args.self.now c.loop.self c.attempt_open-answer.new.self c.loop.invariant c.attempt_open-answer.ensures.keeps

pub returns-clause-cause : goal.returns-clause-cause
returns-clause-cause g c = c.attempt_open.ensures.cause

pub returns-clause-opened : goal.returns-clause-opened
returns-clause-opened g c = c.attempt_open.ensures.opened

pub returns-clause-keeps : goal.returns-clause-keeps
returns-clause-keeps g c =
    let ol = g.met.O.OutLane g.world.𝓛 g.world.𝓜 g.world.𝓡 (λ s x. x, λ x. x, λ x. x, λ x. x) in
    let il = g.met.I.InLane g.world.𝓛 g.world.𝓜 g.world.𝓡 (λ s x. x, λ x. x, λ x. x, λ x. x) in
    let k = laws g.O.OutLane g.I.InLane ol.same_itself ol.same_later il.same_itself il.same_later in
    waited_keeps k c.args.self.now c.loop.self c.attempt_open.new.self c.loop.invariant c.attempt_open.ensures.keeps

pub returns-then-not-is_waiting-clause-bounds : goal.returns-then-not-is_waiting-clause-bounds
returns-then-not-is_waiting-clause-bounds g c =
    let ol = g.met.O.OutLane g.world.𝓛 g.world.𝓜 g.world.𝓡 (λ s x. x, λ x. x, λ x. x, λ x. x) in
    let il = g.met.I.InLane g.world.𝓛 g.world.𝓜 g.world.𝓡 (λ s x. x, λ x. x, λ x. x, λ x. x) in
    let k = laws g.O.OutLane g.I.InLane ol.same_itself ol.same_later il.same_itself il.same_later in
    waited_bounds k c.args.self.now c.loop.self c.attempt_open-answer.new.self c.loop.invariant c.attempt_open-answer.ensures.bounds

pub returns-clause-bounds : goal.returns-clause-bounds
returns-clause-bounds g c =
    let ol = g.met.O.OutLane g.world.𝓛 g.world.𝓜 g.world.𝓡 (λ s x. x, λ x. x, λ x. x, λ x. x) in
    let il = g.met.I.InLane g.world.𝓛 g.world.𝓜 g.world.𝓡 (λ s x. x, λ x. x, λ x. x, λ x. x) in
    let k = laws g.O.OutLane g.I.InLane ol.same_itself ol.same_later il.same_itself il.same_later in
    waited_bounds k c.args.self.now c.loop.self c.attempt_open.new.self c.loop.invariant c.attempt_open.ensures.bounds

pub returns-in-Some-clause-bounds : goal.returns-in-Some-clause-bounds
returns-in-Some-clause-bounds g c =
    let ol = g.met.O.OutLane g.world.𝓛 g.world.𝓜 g.world.𝓡 (λ s x. x, λ x. x, λ x. x, λ x. x) in
    let il = g.met.I.InLane g.world.𝓛 g.world.𝓜 g.world.𝓡 (λ s x. x, λ x. x, λ x. x, λ x. x) in
    let k = laws g.O.OutLane g.I.InLane ol.same_itself ol.same_later il.same_itself il.same_later in
    let so = waited_bounds k c.args.self.now c.loop.self c.attempt_open-answer.new.self c.loop.invariant c.attempt_open-answer.ensures.bounds in
    bounds_later k c.args.self.now c.attempt_open-answer.new.self c.wait.new.self so c.wait.ensures.bounds
