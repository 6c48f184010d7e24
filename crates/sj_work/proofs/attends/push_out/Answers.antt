use Rattle.std.proofs.Common.{None, refl, ap, sym, ◌∙◌}
use Rattle.sj_work.specs.Worked.{kept_stop}
use Rattle.sj_work.proofs.AttendLemmas.{attended_behind, attended_by}
use Rattle.sj_work.proofs.LaneLaws.{laws}
use Rattle.sj_work.proofs.RestLemmas.{rests_itself}
use Rattle.sj_work.proofs.WentLemmas.{went_itself}
use Rattle.sj_work.proofs.attends.push_out.Goals as goal

pub returns-clause-attended : goal.returns-clause-attended
returns-clause-attended g c =
    let ol = g.met.O.OutLane g.world.𝓛 g.world.𝓜 g.world.𝓡 (λ s x. x, λ x. x, λ x. x, λ x. x) in
    let il = g.met.I.InLane g.world.𝓛 g.world.𝓜 g.world.𝓡 (λ s x. x, λ x. x, λ x. x, λ x. x) in
    let k = laws g.O.OutLane g.I.InLane ol.same_itself ol.same_later il.same_itself il.same_later in
    let a = c.args.worker.now in
    let b = record a { answer = None } in
    attended_by k a c.push_on.new.worker c.in-Some-stop.stop (ap kept_stop (sym c.stop.ensures) ∙ sym c.kept.ensures ∙ c.in_default.is) (sym c.stop-2.ensures ∙ c.in-Some-stop.is)
    (attended_behind k a b c.push_on.new.worker (went_itself k a b refl refl) c.push_on.ensures.attended)

pub returns-in-Some-clause-rests : goal.returns-in-Some-clause-rests
returns-in-Some-clause-rests g c = rests_itself c.args.worker.now.node c.args.worker.now.node refl
