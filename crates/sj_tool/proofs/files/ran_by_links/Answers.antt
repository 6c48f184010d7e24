use Rattle.std.proofs.Common.{ℕ, Err, sym, ap, subst}
use Rattle.sj_acceptance.specs.Accepted.{IsAccepted}
use Rattle.sj_check.specs.Held.{file_in}
use Rattle.sj_run.proofs.OverLemmas.{damaged_so}
use Rattle.sj_run.specs.Refusals.{IsDamagedOver}
use Rattle.sj_lang.specs.FileAt.{FileAt}
use Rattle.sj_lang.specs.FileView.{file_of}
use Rattle.sj_tool.specs.AnswerAt.{answer_at}
use Rattle.sj_tool.specs.Answers.{AnswersFile}
use Rattle.sj_tool.specs.Calls.{LinkUseAt, link_use}
use Rattle.sj_tool.specs.Entries.{IsToldSo}
use Rattle.sj_tool.specs.Outcomes.{IsJudged}
use Rattle.sj_tool.specs.LayersOver.{ComesOfFile}
use Rattle.sj_tool.specs.Over.{HasRunOver}
use Rattle.sj_tool.specs.Runs.{HasRun}
use Rattle.sj_tool.proofs.FileAnswers.{told_answers}
use Rattle.sj_tool.proofs.KindLemmas.{run_has_events, run_plays}
use Rattle.sj_tool.proofs.OverAnswers.{told_damage}
use Rattle.sj_tool.proofs.files.ran_by_links.Goals as goal

pub returns-in-Ok-clause-answer : goal.returns-in-Ok-clause-answer
returns-in-Ok-clause-answer g c task log so =
    let links : LinkUseAt = link_use g.L.Links c.args.links.now c.run_file.new.links in
    let judged = subst (λ j. IsJudged c.args.file j) c.in-Accepted.is c.in_ok-accepted.ensures in
    let ran = subst (λ (f : FileAt). HasRun links task log f c.in-Ok.verdict c.in-Ok.text.items) (ap file_of judged.0) (c.in-Ok.ensures.ran task log so) in
    (judged.1, run_plays links task log (file_of c.args.file) c.in-Ok.verdict c.in-Ok.text.items (run_has_events task so.0) ran)

pub returns-clause-answer : goal.returns-clause-answer
returns-clause-answer g c task log so =
    let links : LinkUseAt = link_use g.L.Links c.args.links.now c.run_file.new.links in
    let judged = subst (λ j. IsJudged c.args.file j) c.in-Accepted.is c.in_ok-accepted.ensures in
    let same = ap file_of judged.0 in
    subst (λ (f : FileAt). AnswersFile links task log f (answer_at c.in_ok-answer-in-Err.answer)) same
    (told_answers links task so.0 log (file_of (file_in c.in-Accepted.accepted)) c.in-Err.refusal (answer_at c.in_ok-answer-in-Err.answer)
    (subst (λ (f : FileAt). IsAccepted f) (sym same) judged.1)
    (λ same_refusal. c.in-Err.ensures.link_fault (ap Err same_refusal))
    (damaged_so g.L.Out.OutLane g.L.In.InLane g.L.Links.joined (file_of (file_in c.in-Accepted.accepted)) c.args.run.looks (g.L.Links.tells c.args.links.now) c.in-Err.refusal c.in-Err.ensures.damaged) c.in-Err.ensures.telling
    (subst (λ (f : FileAt). IsToldSo f c.in-Err.refusal (answer_at c.in_ok-answer-in-Err.answer)) (ap file_of c.file.ensures.value) c.in_ok-answer-in-Err.ensures))

pub returns-in-Ok-clause-over : goal.returns-in-Ok-clause-over
returns-in-Ok-clause-over g c task so =
    let links : LinkUseAt = link_use g.L.Links c.args.links.now c.run_file.new.links in
    let judged = subst (λ j. IsJudged c.args.file j) c.in-Accepted.is c.in_ok-accepted.ensures in
    λ log. subst (λ (f : FileAt). HasRunOver g.L.Out.OutLane g.L.In.InLane g.L.Links.joined links task log f c.in-Ok.verdict c.in-Ok.text.items) (ap file_of judged.0) (c.in-Ok.ensures.over task log so)

pub returns-clause-over : goal.returns-clause-over
returns-clause-over g c task so =
    let links : LinkUseAt = link_use g.L.Links c.args.links.now c.run_file.new.links in
    let judged = subst (λ j. IsJudged c.args.file j) c.in-Accepted.is c.in_ok-accepted.ensures in
    let file = file_of (file_in c.in-Accepted.accepted) in
    subst (λ (f : FileAt). ComesOfFile g.L.Out.OutLane g.L.In.InLane g.L.Links.joined links task f (answer_at c.in_ok-answer-in-Err.answer)) (ap file_of judged.0)
    (told_damage g.L.Out.OutLane g.L.In.InLane g.L.Links.joined links task file c.in-Err.refusal (answer_at c.in_ok-answer-in-Err.answer)
    (subst (λ (n : ℕ). IsDamagedOver g.L.Out.OutLane g.L.In.InLane g.L.Links.joined file n links.tells c.in-Err.refusal) (sym so.1) c.in-Err.ensures.damaged)
    (subst (λ (f : FileAt). IsToldSo f c.in-Err.refusal (answer_at c.in_ok-answer-in-Err.answer)) (ap file_of c.file.ensures.value) c.in_ok-answer-in-Err.ensures))
