use Rattle.std.proofs.Common.{◌∙◌, Some, ap}
use Rattle.sj_work.proofs.LaneLaws.{laws}
use Rattle.sj_seat.proofs.CountLemmas.{counted_round}
use Rattle.sj_seat.proofs.LookedLemmas.{may_go}
use Rattle.sj_seat.proofs.StopLemmas.{ended_round}
use Rattle.sj_seat.proofs.WaitLemmas.{idled}
use Rattle.sj_seat.proofs.deeds.deliver.Goals as goal

pub returns : goal.returns
returns g c =
    let ol = g.met.O.OutLane g.world.𝓛 g.world.𝓜 g.world.𝓡 (λ s x. x, λ x. x, λ x. x, λ x. x) in
    let il = g.met.I.InLane g.world.𝓛 g.world.𝓜 g.world.𝓡 (λ s x. x, λ x. x, λ x. x, λ x. x) in
    let k = laws g.O.OutLane g.I.InLane ol.same_itself ol.same_later il.same_itself il.same_later in
    let a = c.args.worker.now in
    let b = c.attend.new.worker in
    let h = idled k a b c.requires.idle c.attend.ensures.attended in
    record { keeps = h.keeps; idle = h.idle; work = h.work; acts = h.acts; counts = counted_round k a b c.attend.ensures.attended; stop = c.attend.ensures.stop; ended = λ is. ended_round k a b c.attend.ensures.attended (c.attend.ensures.stop ∙ ap Some is); looked = λ none same. c.attend.ensures.looked (may_go k a b h.idle c.attend.ensures.attended c.attend.result c.attend.ensures.stop none) same }
