use Rattle.std.proofs.Common.{None, Option, refl, ap, sym, ◌∙◌, subst}
use Rattle.sj_work.specs.declared.worker.Stop.{Stop}
use Rattle.sj_work.specs.Attended.{MayGoOn}
use Rattle.sj_work.specs.Worked.{kept_stop}
use Rattle.sj_work.proofs.AttendLemmas.{attended_behind, attended_by, kept_over}
use Rattle.sj_work.proofs.LaneLaws.{laws}
use Rattle.sj_work.proofs.WentLemmas.{went_itself}
use Rattle.sj_work.proofs.attends.attend.Goals as goal

pub returns-in-Some-clause-looked : goal.returns-in-Some-clause-looked
returns-in-Some-clause-looked g c = λ may. absurd (kept_over c.stop.result c.in-Some.stop (sym c.kept.ensures ∙ c.in-Some.is) may)

pub returns-clause-attended : goal.returns-clause-attended
returns-clause-attended g c =
    let ol = g.met.O.OutLane g.world.𝓛 g.world.𝓜 g.world.𝓡 (λ s x. x, λ x. x, λ x. x, λ x. x) in
    let il = g.met.I.InLane g.world.𝓛 g.world.𝓜 g.world.𝓡 (λ s x. x, λ x. x, λ x. x, λ x. x) in
    let k = laws g.O.OutLane g.I.InLane ol.same_itself ol.same_later il.same_itself il.same_later in
    let a = c.args.worker.now in
    let b = record a { answer = None } in
    attended_by k a c.round.new.worker c.in-Some-stop.stop (ap kept_stop (sym c.stop.ensures) ∙ sym c.kept.ensures ∙ c.in_default.is) (sym c.stop-2.ensures ∙ c.in-Some-stop.is)
    (attended_behind k a b c.round.new.worker (went_itself k a b refl refl) c.round.ensures.attended)

pub returns-clause-looked : goal.returns-clause-looked
returns-clause-looked g c = λ may. c.round.ensures.looked (subst (λ (s : Option Stop). MayGoOn s) (sym c.in-Some-stop.is ∙ c.stop-2.ensures) may)
