use Rattle.std.proofs.Common.{◌≡◌, ◌∙◌, Some, sym}
use Rattle.sj_work.proofs.LaneLaws.{laws}
use Rattle.sj_seat.specs.Ready.{first_there}
use Rattle.sj_seat.proofs.AfterLemmas.{bounds_later, waited_bounds, waited_err, waited_more, waited_none, waited_then}
use Rattle.sj_seat.proofs.AnyLemmas.{allowed_waited, any_first, any_ok, cut_off, none_there, stopped_there, waited_went}
use Rattle.sj_seat.proofs.CountLemmas.{counted_later}
use Rattle.sj_seat.proofs.PickLemmas.{there_if}
use Rattle.sj_seat.proofs.guest.Guest.wait_for_any.Goals as goal

pub loop-init : goal.loop-init
loop-init g c =
    let ol = g.met.O.OutLane g.world.𝓛 g.world.𝓜 g.world.𝓡 (λ s x. x, λ x. x, λ x. x, λ x. x) in
    let il = g.met.I.InLane g.world.𝓛 g.world.𝓜 g.world.𝓡 (λ s x. x, λ x. x, λ x. x, λ x. x) in
    let k = laws g.O.OutLane g.I.InLane ol.same_itself ol.same_later il.same_itself il.same_later in
    record { waited = waited_none k c.args.self.now; none = c.requires.none }

pub loop-preserved : goal.loop-preserved
loop-preserved g c =
    let ol = g.met.O.OutLane g.world.𝓛 g.world.𝓜 g.world.𝓡 (λ s x. x, λ x. x, λ x. x, λ x. x) in
    let il = g.met.I.InLane g.world.𝓛 g.world.𝓜 g.world.𝓡 (λ s x. x, λ x. x, λ x. x, λ x. x) in
    let k = laws g.O.OutLane g.I.InLane ol.same_itself ol.same_later il.same_itself il.same_later in
    let a = c.args.self.now in
    let l = c.loop.self in
    let w = c.wait.new.self in
    let wait = c.wait.ensures in
    let x = waited_more k a l w c.loop.invariant.waited wait.keeps wait.rests wait.bounds wait.counts (wait.none c.in_default.is) wait.went in
    record { waited = x; none = sym c.first_ready.ensures ∙ c.in_default-first_ready.is }

pub returns-clause-err : goal.returns-clause-err
returns-clause-err g c =
    let ol = g.met.O.OutLane g.world.𝓛 g.world.𝓜 g.world.𝓡 (λ s x. x, λ x. x, λ x. x, λ x. x) in
    let il = g.met.I.InLane g.world.𝓛 g.world.𝓜 g.world.𝓡 (λ s x. x, λ x. x, λ x. x, λ x. x) in
    let k = laws g.O.OutLane g.I.InLane ol.same_itself ol.same_later il.same_itself il.same_later in
    waited_went k c.args.self.now c.loop.self c.loop.invariant.waited

pub returns-in-Some-clause-err : goal.returns-in-Some-clause-err
returns-in-Some-clause-err g c =
    let ol = g.met.O.OutLane g.world.𝓛 g.world.𝓜 g.world.𝓡 (λ s x. x, λ x. x, λ x. x, λ x. x) in
    let il = g.met.I.InLane g.world.𝓛 g.world.𝓜 g.world.𝓡 (λ s x. x, λ x. x, λ x. x, λ x. x) in
    let k = laws g.O.OutLane g.I.InLane ol.same_itself ol.same_later il.same_itself il.same_later in
    λ file rest parties. waited_then k c.args.self.now c.loop.self c.wait.new.self file rest rest c.loop.invariant.waited parties (c.wait.ensures.went file rest)

pub take_there-requires-clause-allowed : goal.take_there-requires-clause-allowed
take_there-requires-clause-allowed g c κs within =
    let ol = g.met.O.OutLane g.world.𝓛 g.world.𝓜 g.world.𝓡 (λ s x. x, λ x. x, λ x. x, λ x. x) in
    let il = g.met.I.InLane g.world.𝓛 g.world.𝓜 g.world.𝓡 (λ s x. x, λ x. x, λ x. x, λ x. x) in
    let k = laws g.O.OutLane g.I.InLane ol.same_itself ol.same_later il.same_itself il.same_later in
    let a = c.args.self.now in
    let l = c.loop.self in
    let w = c.wait.new.self in
    let wait = c.wait.ensures in
    let x = waited_more k a l w c.loop.invariant.waited wait.keeps wait.rests wait.bounds wait.counts (wait.none c.in_default.is) wait.went in
    allowed_waited k a w c.args.ends.now c.in-Some-first_ready.end x c.requires.allowed (sym c.first_ready.ensures ∙ c.in-Some-first_ready.is)

pub take_there-requires-clause-there : goal.take_there-requires-clause-there
take_there-requires-clause-there g c κs within =
    there_if c.wait.new.self.worker.node c.args.ends.now c.in-Some-first_ready.end (sym c.first_ready.ensures ∙ c.in-Some-first_ready.is)

pub returns-in-Some-first_ready-clause-ok : goal.returns-in-Some-first_ready-clause-ok
returns-in-Some-first_ready-clause-ok g c =
    let ol = g.met.O.OutLane g.world.𝓛 g.world.𝓜 g.world.𝓡 (λ s x. x, λ x. x, λ x. x, λ x. x) in
    let il = g.met.I.InLane g.world.𝓛 g.world.𝓜 g.world.𝓡 (λ s x. x, λ x. x, λ x. x, λ x. x) in
    let k = laws g.O.OutLane g.I.InLane ol.same_itself ol.same_later il.same_itself il.same_later in
    let a = c.args.self.now in
    let l = c.loop.self in
    let w = c.wait.new.self in
    let wait = c.wait.ensures in
    let x = waited_more k a l w c.loop.invariant.waited wait.keeps wait.rests wait.bounds wait.counts (wait.none c.in_default.is) wait.went in
    let h = c.take_there.ensures in
    any_ok k a w c.take_there.new.self x c.in-Some-first_ready.end c.take_there.result h.ok h.end

pub returns-in-Some-first_ready-clause-err : goal.returns-in-Some-first_ready-clause-err
returns-in-Some-first_ready-clause-err g c =
    let ol = g.met.O.OutLane g.world.𝓛 g.world.𝓜 g.world.𝓡 (λ s x. x, λ x. x, λ x. x, λ x. x) in
    let il = g.met.I.InLane g.world.𝓛 g.world.𝓜 g.world.𝓡 (λ s x. x, λ x. x, λ x. x, λ x. x) in
    let k = laws g.O.OutLane g.I.InLane ol.same_itself ol.same_later il.same_itself il.same_later in
    let a = c.args.self.now in
    let l = c.loop.self in
    let w = c.wait.new.self in
    let wait = c.wait.ensures in
    let x = waited_more k a l w c.loop.invariant.waited wait.keeps wait.rests wait.bounds wait.counts (wait.none c.in_default.is) wait.went in
    λ file rest parties. waited_err k a w c.take_there.new.self c.take_there.result file rest rest x parties (c.take_there.ensures.err file rest)

pub returns-in-Some-first_ready-clause-first : goal.returns-in-Some-first_ready-clause-first
returns-in-Some-first_ready-clause-first g c =
    let ol = g.met.O.OutLane g.world.𝓛 g.world.𝓜 g.world.𝓡 (λ s x. x, λ x. x, λ x. x, λ x. x) in
    let il = g.met.I.InLane g.world.𝓛 g.world.𝓜 g.world.𝓡 (λ s x. x, λ x. x, λ x. x, λ x. x) in
    let k = laws g.O.OutLane g.I.InLane ol.same_itself ol.same_later il.same_itself il.same_later in
    let a = c.args.self.now in
    let l = c.loop.self in
    let w = c.wait.new.self in
    let wait = c.wait.ensures in
    let x = waited_more k a l w c.loop.invariant.waited wait.keeps wait.rests wait.bounds wait.counts (wait.none c.in_default.is) wait.went in
    let h = c.take_there.ensures in
    let e = c.in-Some-first_ready.end in
    let there : first_there w.worker.node c.args.ends.now ≡ Some e = sym c.first_ready.ensures ∙ c.in-Some-first_ready.is in
    any_first k a w c.take_there.new.self x e c.args.ends.now c.take_there.result there h.ok h.end

pub returns-in-Some-clause-counts : goal.returns-in-Some-clause-counts
returns-in-Some-clause-counts g c =
    let ol = g.met.O.OutLane g.world.𝓛 g.world.𝓜 g.world.𝓡 (λ s x. x, λ x. x, λ x. x, λ x. x) in
    let il = g.met.I.InLane g.world.𝓛 g.world.𝓜 g.world.𝓡 (λ s x. x, λ x. x, λ x. x, λ x. x) in
    let k = laws g.O.OutLane g.I.InLane ol.same_itself ol.same_later il.same_itself il.same_later in
    counted_later k c.args.self.now.worker c.loop.self.worker c.wait.new.self.worker c.loop.invariant.waited.counts c.wait.ensures.counts

pub returns-in-Some-first_ready-clause-counts : goal.returns-in-Some-first_ready-clause-counts
returns-in-Some-first_ready-clause-counts g c =
    let ol = g.met.O.OutLane g.world.𝓛 g.world.𝓜 g.world.𝓡 (λ s x. x, λ x. x, λ x. x, λ x. x) in
    let il = g.met.I.InLane g.world.𝓛 g.world.𝓜 g.world.𝓡 (λ s x. x, λ x. x, λ x. x, λ x. x) in
    let k = laws g.O.OutLane g.I.InLane ol.same_itself ol.same_later il.same_itself il.same_later in
    let so = counted_later k c.args.self.now.worker c.loop.self.worker c.wait.new.self.worker c.loop.invariant.waited.counts c.wait.ensures.counts in
    counted_later k c.args.self.now.worker c.wait.new.self.worker c.take_there.new.self.worker so c.take_there.ensures.counts

pub returns-in-Some-clause-cause : goal.returns-in-Some-clause-cause
returns-in-Some-clause-cause g c = stopped_there c.in-Some.stop (first_there c.wait.new.self.worker.node c.args.ends.now) c.wait.new.self c.in-Some.ensures.some

pub returns-in-Some-first_ready-clause-cause : goal.returns-in-Some-first_ready-clause-cause
returns-in-Some-first_ready-clause-cause g c =
    let w = c.wait.new.self in
    let es = c.args.ends.now in
    let e = c.in-Some-first_ready.end in
    let h = c.take_there.ensures in
    let there : first_there w.worker.node es ≡ Some e = sym c.first_ready.ensures ∙ c.in-Some-first_ready.is in
    cut_off c.take_there.result es e w c.take_there.new.self there h.stays h.cause

pub returns-clause-cause : goal.returns-clause-cause
returns-clause-cause g c = none_there (first_there c.loop.self.worker.node c.args.ends.now) c.loop.self c.loop.invariant.none

pub returns-clause-bounds : goal.returns-clause-bounds
returns-clause-bounds g c = c.loop.invariant.waited.bounds

pub returns-in-Some-clause-bounds : goal.returns-in-Some-clause-bounds
returns-in-Some-clause-bounds g c =
    let ol = g.met.O.OutLane g.world.𝓛 g.world.𝓜 g.world.𝓡 (λ s x. x, λ x. x, λ x. x, λ x. x) in
    let il = g.met.I.InLane g.world.𝓛 g.world.𝓜 g.world.𝓡 (λ s x. x, λ x. x, λ x. x, λ x. x) in
    let k = laws g.O.OutLane g.I.InLane ol.same_itself ol.same_later il.same_itself il.same_later in
    waited_bounds k c.args.self.now c.loop.self c.wait.new.self c.loop.invariant.waited c.wait.ensures.bounds

pub returns-in-Some-first_ready-clause-bounds : goal.returns-in-Some-first_ready-clause-bounds
returns-in-Some-first_ready-clause-bounds g c =
    let ol = g.met.O.OutLane g.world.𝓛 g.world.𝓜 g.world.𝓡 (λ s x. x, λ x. x, λ x. x, λ x. x) in
    let il = g.met.I.InLane g.world.𝓛 g.world.𝓜 g.world.𝓡 (λ s x. x, λ x. x, λ x. x, λ x. x) in
    let k = laws g.O.OutLane g.I.InLane ol.same_itself ol.same_later il.same_itself il.same_later in
    let so = waited_bounds k c.args.self.now c.loop.self c.wait.new.self c.loop.invariant.waited c.wait.ensures.bounds in
    bounds_later k c.args.self.now c.wait.new.self c.take_there.new.self so c.take_there.ensures.bounds
