use Rattle.sj_work.specs.Views.{stop_of}
use Rattle.sj_work.proofs.LaneLaws.{laws}
use Rattle.sj_seat.proofs.CountLemmas.{counted_later}
use Rattle.sj_seat.proofs.RoundLemmas.{kept_none, rounded_more, rounded_none, rounded_then}
use Rattle.sj_seat.proofs.deeds.deliver_all.Goals as goal

pub loop-worker-init : goal.loop-worker-init
loop-worker-init g c =
    let ol = g.met.O.OutLane g.world.𝓛 g.world.𝓜 g.world.𝓡 (λ s x. x, λ x. x, λ x. x, λ x. x) in
    let il = g.met.I.InLane g.world.𝓛 g.world.𝓜 g.world.𝓡 (λ s x. x, λ x. x, λ x. x, λ x. x) in
    let k = laws g.O.OutLane g.I.InLane ol.same_itself ol.same_later il.same_itself il.same_later in
    rounded_none k c.args.worker.now c.requires.idle

pub returns-then-not-may_go_on : goal.returns-then-not-may_go_on
returns-then-not-may_go_on g c =
    let ol = g.met.O.OutLane g.world.𝓛 g.world.𝓜 g.world.𝓡 (λ s x. x, λ x. x, λ x. x, λ x. x) in
    let il = g.met.I.InLane g.world.𝓛 g.world.𝓜 g.world.𝓡 (λ s x. x, λ x. x, λ x. x, λ x. x) in
    let k = laws g.O.OutLane g.I.InLane ol.same_itself ol.same_later il.same_itself il.same_later in
    let l = c.loop-worker.worker in
    let m = c.rounds-stop.new.worker in
    let e = c.rounds-stop.ensures in
    let x = c.loop-worker.invariant in
    let h = rounded_then k c.args.worker.now l m x (record { keeps = e.keeps; idle = e.idle; acts = e.acts; work = e.work }) in
    record { keeps = h.keeps; idle = h.idle; work = h.work; acts = h.acts; counts = counted_later k c.args.worker.now l m x.counts e.counts; stop = e.stop; ended = e.ended }

pub returns-then-clock-before : goal.returns-then-clock-before
returns-then-clock-before g c =
    let ol = g.met.O.OutLane g.world.𝓛 g.world.𝓜 g.world.𝓡 (λ s x. x, λ x. x, λ x. x, λ x. x) in
    let il = g.met.I.InLane g.world.𝓛 g.world.𝓜 g.world.𝓡 (λ s x. x, λ x. x, λ x. x, λ x. x) in
    let k = laws g.O.OutLane g.I.InLane ol.same_itself ol.same_later il.same_itself il.same_later in
    let l = c.loop-worker.worker in
    let m = c.rounds-stop.new.worker in
    let e = c.rounds-stop.ensures in
    let x = c.loop-worker.invariant in
    let h = rounded_then k c.args.worker.now l m x (record { keeps = e.keeps; idle = e.idle; acts = e.acts; work = e.work }) in
    record { keeps = h.keeps; idle = h.idle; work = h.work; acts = h.acts; counts = counted_later k c.args.worker.now l m x.counts e.counts; stop = e.stop; ended = e.ended }

pub loop-worker-preserved : goal.loop-worker-preserved
loop-worker-preserved g c =
    let ol = g.met.O.OutLane g.world.𝓛 g.world.𝓜 g.world.𝓡 (λ s x. x, λ x. x, λ x. x, λ x. x) in
    let il = g.met.I.InLane g.world.𝓛 g.world.𝓜 g.world.𝓡 (λ s x. x, λ x. x, λ x. x, λ x. x) in
    let k = laws g.O.OutLane g.I.InLane ol.same_itself ol.same_later il.same_itself il.same_later in
    let l = c.loop-worker.worker in
    let m = c.rounds-stop.new.worker in
    let e = c.rounds-stop.ensures in
    rounded_more k c.args.worker.now l m c.loop-worker.invariant (record { keeps = e.keeps; idle = e.idle; acts = e.acts; work = e.work }) e.counts
    (kept_none (stop_of m) c.rounds-stop.result e.stop (c.may_go_on.ensures c.if-not-may_go_on.false))

pub returns : goal.returns
returns g c =
    let ol = g.met.O.OutLane g.world.𝓛 g.world.𝓜 g.world.𝓡 (λ s x. x, λ x. x, λ x. x, λ x. x) in
    let il = g.met.I.InLane g.world.𝓛 g.world.𝓜 g.world.𝓡 (λ s x. x, λ x. x, λ x. x, λ x. x) in
    let k = laws g.O.OutLane g.I.InLane ol.same_itself ol.same_later il.same_itself il.same_later in
    let l = c.loop-worker.worker in
    let m = c.deliver.new.worker in
    let e = c.deliver.ensures in
    let x = c.loop-worker.invariant in
    let h = rounded_then k c.args.worker.now l m x (record { keeps = e.keeps; idle = e.idle; acts = e.acts; work = e.work }) in
    record { keeps = h.keeps; idle = h.idle; work = h.work; acts = h.acts; counts = counted_later k c.args.worker.now l m x.counts e.counts; stop = e.stop; ended = e.ended }
