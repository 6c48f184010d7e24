use Rattle.std.proofs.Common.{◌≤◌, length, refl, sym, subst, arith}
use Rattle.sj_command.specs.declared.tasks.Task.{Task}
use Rattle.sj_command.specs.declared.tasks.Task.TheVariants as tasks
use Rattle.sj_lang.specs.Limits.{file_limit}
use Rattle.sj_tool.specs.declared.plans.Play.{Play}
use Rattle.sj_tool.specs.AnswerAt.{answer_at}
use Rattle.sj_tool.specs.LogAt.{LogAt, log_at, no_log}
use Rattle.sj_tool.specs.Calls.{LinkUseAt, link_use}
use Rattle.sj_tool.specs.Plans.{DoesSo}
use Rattle.sj_tool.specs.Tasks.{HasParts, IsPartedFor, RunsParties}
use Rattle.sj_tool.proofs.FileAnswers.{answers_bytes}
use Rattle.sj_tool.proofs.InputLemmas.{whole_parts}
use Rattle.sj_tool.proofs.OverAnswers.{part_comes}
use Rattle.sj_tool.proofs.inputs.answer_to_bytes.Goals as goal

pub returns-in_ok-answer-in-Replay-clause-answer : goal.returns-in_ok-answer-in-Replay-clause-answer
returns-in_ok-answer-in-Replay-clause-answer g c task so =
    let links : LinkUseAt = link_use g.L.Links c.args.links.now c.answer_to_text.new.links in
    let bytes = c.args.bytes.now in
    let text = c.in-Some.text.now in
    let log : LogAt = log_at c.in-Some.version c.in-Some.log.now in
    let few : length text ≤ file_limit = omega (arith, c.if-text-gt-MAX_FILE.false) in
    let is = subst (λ (p : Play). DoesSo p task) c.in-Replay.is so in
    let parts : HasParts task bytes text log = subst (λ (t : Task). HasParts t bytes text log) (sym is) (c.in-Some.ensures.some, few) in
    answers_bytes links task bytes text log (answer_at c.in_ok-answer-in-Replay.answer) parts (c.in_ok-answer-in-Replay.ensures.answer task so)

pub returns-then-text-gt-MAX_FILE-clause-answer : goal.returns-then-text-gt-MAX_FILE-clause-answer
returns-then-text-gt-MAX_FILE-clause-answer g c task so =
    let bytes = c.args.bytes.now in
    let text = c.in-Some.text.now in
    let log : LogAt = log_at c.in-Some.version c.in-Some.log.now in
    let is = subst (λ (p : Play). DoesSo p task) c.in-Replay.is so in
    let parts : IsPartedFor task bytes text log = subst (λ (t : Task). IsPartedFor t bytes text log) (sym is) c.in-Some.ensures.some in
    record { text = text; log = log; parts = parts; long = omega (arith, c.if-text-gt-MAX_FILE.true) }

pub returns-in_ok-answer-in-Talk-clause-answer : goal.returns-in_ok-answer-in-Talk-clause-answer
returns-in_ok-answer-in-Talk-clause-answer g c task so =
    let links : LinkUseAt = link_use g.L.Links c.args.links.now c.answer_to_text-in-Talk.new.links in
    let bytes = c.args.bytes.now in
    let text = c.in-Some-parted_talk.text.now in
    let log : LogAt = log_at 1 c.in-Some-parted_talk.lines.now in
    let few : length text ≤ file_limit = omega (arith, c.if-text-gt-MAX_FILE-2.false) in
    let is = subst (λ (p : Play). DoesSo p task) c.in-Talk.is so in
    let parts : HasParts task bytes text log = subst (λ (t : Task). HasParts t bytes text log) (sym is) ((c.in-Some-parted_talk.ensures.some, refl), few) in
    answers_bytes links task bytes text log (answer_at c.in_ok-answer-in-Talk.answer) parts (c.in_ok-answer-in-Talk.ensures.answer task so)

pub returns-then-text-gt-MAX_FILE-2-clause-answer : goal.returns-then-text-gt-MAX_FILE-2-clause-answer
returns-then-text-gt-MAX_FILE-2-clause-answer g c task so =
    let bytes = c.args.bytes.now in
    let text = c.in-Some-parted_talk.text.now in
    let log : LogAt = log_at 1 c.in-Some-parted_talk.lines.now in
    let is = subst (λ (p : Play). DoesSo p task) c.in-Talk.is so in
    let parts : IsPartedFor task bytes text log = subst (λ (t : Task). IsPartedFor t bytes text log) (sym is) (c.in-Some-parted_talk.ensures.some, refl) in
    record { text = text; log = log; parts = parts; long = omega (arith, c.if-text-gt-MAX_FILE-2.true) }

pub returns-in_ok-answer-in_default-clause-answer : goal.returns-in_ok-answer-in_default-clause-answer
returns-in_ok-answer-in_default-clause-answer g c task so =
    let links : LinkUseAt = link_use g.L.Links c.args.links.now c.answer_to_text-in_default.new.links in
    let bytes = c.args.bytes.now in
    answers_bytes links task bytes bytes no_log (answer_at c.in_ok-answer-in_default.answer) (whole_parts c.args.play task so bytes c.in_default.not-Replay c.in_default.not-Talk) (c.in_ok-answer-in_default.ensures.answer task so)

pub returns-in_ok-answer-in-Replay-clause-over : goal.returns-in_ok-answer-in-Replay-clause-over
returns-in_ok-answer-in-Replay-clause-over g c task so =
    part_comes g.L.Out.OutLane g.L.In.InLane g.L.Links.joined (link_use g.L.Links c.args.links.now c.answer_to_text.new.links) task c.args.bytes.now c.in-Some.text.now (answer_at c.in_ok-answer-in-Replay.answer)
    (λ runs. subst (λ (t : Task). RunsParties t) (subst (λ (p : Play). DoesSo p task) c.in-Replay.is so) runs) (c.in_ok-answer-in-Replay.ensures.over task so)

pub returns-in_ok-answer-in-Talk-clause-over : goal.returns-in_ok-answer-in-Talk-clause-over
returns-in_ok-answer-in-Talk-clause-over g c task so =
    part_comes g.L.Out.OutLane g.L.In.InLane g.L.Links.joined (link_use g.L.Links c.args.links.now c.answer_to_text-in-Talk.new.links) task c.args.bytes.now c.in-Some-parted_talk.text.now (answer_at c.in_ok-answer-in-Talk.answer)
    (λ runs. subst (λ (t : Task). RunsParties t) (subst (λ (p : Play). DoesSo p task) c.in-Talk.is so) runs) (c.in_ok-answer-in-Talk.ensures.over task so)
