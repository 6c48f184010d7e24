use Rattle.std.proofs.Common.{sym, ap, subst}
use Rattle.sj_acceptance.specs.Accepted.{IsAccepted}
use Rattle.sj_check.specs.Held.{file_in}
use Rattle.sj_command.specs.declared.tasks.Task.TheVariants as tasks
use Rattle.sj_lang.specs.FileAt.{FileAt}
use Rattle.sj_lang.specs.FileView.{file_of}
use Rattle.sj_tool.specs.AnswerAt.{answer_at}
use Rattle.sj_tool.specs.Answers.{AnswersFile}
use Rattle.sj_tool.specs.LogAt.{log_at}
use Rattle.sj_tool.specs.Outcomes.{IsJudged}
use Rattle.sj_tool.specs.Replays.{IsToldFault}
use Rattle.sj_tool.proofs.FileAnswers.{fault_answers}
use Rattle.sj_tool.proofs.files.ran_by_log.Goals as goal

pub returns : goal.returns
returns c links =
    let judged = subst (λ j. IsJudged c.args.file j) c.in-Accepted.is c.in_ok-accepted.ensures in
    let same = ap file_of judged.0 in
    subst (λ (f : FileAt). AnswersFile links (tasks.Replay c.args.prints) (log_at c.args.version c.args.log.now) f (answer_at c.in_ok-answer-in-Err.answer)) same
    (fault_answers links (tasks.Replay c.args.prints) tt (log_at c.args.version c.args.log.now) (file_of (file_in c.in-Accepted.accepted)) c.in-Err.fault (answer_at c.in_ok-answer-in-Err.answer)
    (subst (λ (f : FileAt). IsAccepted f) (sym same) judged.1)
    c.in-Err.ensures.refused
    (subst (λ (f : FileAt). IsToldFault f c.in-Err.fault (answer_at c.in_ok-answer-in-Err.answer)) (ap file_of c.file.ensures.value) c.in_ok-answer-in-Err.ensures))
