-- What is answered of damage and of a run, with the workers and lanes of which it comes.
use Rattle.std.proofs.Common.{◌≡◌, ◌∙◌, ℕ, List, Option, Result, Ok, Err, IfOk, refl, sym, ap, subst, arith}
use Rattle.std.specs.Prelude.{option_map}
use Rattle.sj_lang.specs.FileAt.{FileAt}
use Rattle.sj_lane.specs.declared.lane.OutLane.{Ghosts as OutLane}
use Rattle.sj_lane.specs.declared.lane.InLane.{Ghosts as InLane}
use Rattle.sj_end.specs.Lines.{line_at}
use Rattle.sj_grammar.specs.Files.{IsFile}
use Rattle.sj_run.specs.Refusals.{IsDamagedOver}
use Rattle.sj_run.specs.declared.refusal.RunRefusal.{RunRefusal}
use Rattle.sj_run.specs.declared.refusal.RunRefusal.TheVariants as refusals
use Rattle.sj_command.specs.declared.tasks.Task.{Task}
use Rattle.sj_command.specs.Task.{Asks}
use Rattle.sj_tool.specs.declared.answers.Answer.{Answer}
use Rattle.sj_tool.specs.declared.plans.Play.{Play}
use Rattle.sj_tool.specs.declared.plans.Play.TheVariants as plays
use Rattle.sj_tool.specs.declared.plans.Running.{Running}
use Rattle.sj_tool.specs.AnswerAt.{AnswerAt, answer_at, Usage, ReadFault, TooLarge, NoTalk, LinkFault, Syntax, Check, LogFault, NoParty, Misfit, Damaged, Printed, Made, Ran}
use Rattle.sj_tool.specs.Answers.{IsInTable}
use Rattle.sj_tool.specs.Calls.{CallAt, LinkUseAt}
use Rattle.sj_tool.specs.Headline.{IsVerdict}
use Rattle.sj_tool.specs.LayersOver.{ComesIn, ComesOf, ComesOfFile}
use Rattle.sj_tool.specs.Layers.{AnswersText}
use Rattle.sj_tool.specs.Over.{WritesDamage, WritesRun}
use Rattle.sj_tool.specs.Plans.{DoesSo, RunsSo}
use Rattle.sj_tool.specs.Entries.{IsDamagedBy, IsToldSo}
use Rattle.sj_tool.specs.LogAt.{LogAt, no_log}
use Rattle.sj_tool.specs.Tasks.{AsksFor, HasInput, RunsParties, looks_of}
use Rattle.sj_tool.specs.Texts.{status_of, text_of}
use Rattle.sj_semantics.specs.declared.Verdict.TheVariants.{Blocked, Done, Long}
use Rattle.sj_base.specs.Stream.{put_behind}
use Rattle.sj_command.proofs.OneTask.{one_task}
use Rattle.sj_tool.proofs.InputLemmas.{run_parts}
use Rattle.sj_tool.proofs.PlayedAnswers.{came_of_run}

-- one status is that of damage alone
damage_by : (a : AnswerAt) → status_of a ≡ 9 → (t : List ℕ) × (a ≡ Damaged t)
damage_by (Damaged t) e = (t, refl)
damage_by Usage e = absurd (omega (arith, e))
damage_by ReadFault e = absurd (omega (arith, e))
damage_by TooLarge e = absurd (omega (arith, e))
damage_by NoTalk e = absurd (omega (arith, e))
damage_by LinkFault e = absurd (omega (arith, e))
damage_by (Syntax f) e = absurd (omega (arith, e))
damage_by (Check r k) e = absurd (omega (arith, e))
damage_by (LogFault r k) e = absurd (omega (arith, e))
damage_by (NoParty n) e = absurd (omega (arith, e))
damage_by (Misfit t) e = absurd (omega (arith, e))
damage_by (Printed t) e = absurd (omega (arith, e))
damage_by (Made t) e = absurd (omega (arith, e))
damage_by (Ran Done t) e = absurd (omega (arith, e))
damage_by (Ran Blocked t) e = absurd (omega (arith, e))
damage_by (Ran Long t) e = absurd (omega (arith, e))

module _ {O I : Type 0} (outward : OutLane O) (inward : InLane I) (joined : O → I → Type 0) where
  -- what reports a refusal reports its damage
  pub told_damage : (links : LinkUseAt) (task : Task) (file : FileAt) (r : RunRefusal) (a : AnswerAt) → IsDamagedOver outward inward joined file (looks_of task) links.tells r → IsToldSo file r a
      → ComesOfFile outward inward joined links task file a
  told_damage links task file refusals.LinkFault a over told = subst (λ (b : AnswerAt). ComesOfFile outward inward joined links task file b) (sym told) tt
  told_damage links task file (refusals.Damaged m) a over told = by a told
    where
      by : (a : AnswerAt) → IsDamagedBy file m.number (line_at m.logged) (option_map line_at m.due) a → ComesOfFile outward inward joined links task file a
      by (Damaged t) told = record { tells_it = record { number = m.number; logged = line_at m.logged; other = option_map line_at m.due; damage = over.damage; told = told }; over = over }
      by a told = absurd told
  told_damage links task file refusals.NoMemory a over told = absurd told

  module _ {E : Type 0} (links : LinkUseAt) (play : Play) (text : List ℕ) where
    -- what is answered to the text of a file whose parties are run
    pub run_comes : (file : FileAt) (run : Running) → play ≡ plays.Run run → (r : Result Answer E) → IsFile text file → IfOk r (λ a. (t : Task) → RunsSo run t → ComesOfFile outward inward joined links t file (answer_at a))
        → IfOk r (λ a. (task : Task) → DoesSo play task → ComesIn outward inward joined links task text (answer_at a))
    run_comes file run is (Ok a) stands x = λ task so. let ran = subst (λ (p : Play). DoesSo p task) is so in by task ran (answer_at a) (x task ran)
      where
        by : (task : Task) → RunsSo run task → (a : AnswerAt) → ComesOfFile outward inward joined links task file a → ComesIn outward inward joined links task text a
        by task so (Damaged t) x = record { file = file; stands = stands; runs = so.0; told = x }
        by task so (Ran v t) x = λ _. record { file = file; stands = stands; ran = x }
        by task so a x = tt
    run_comes file run is (Err e) stands x = tt

    -- where none are run there is nothing of that
    pub none_comes : (kind : Task) → ((task : Task) → DoesSo play task → task ≡ kind) → (RunsParties kind → ⊥) → (any : LinkUseAt) (log : LogAt) (r : Result Answer E)
        → IfOk r (λ a. (task : Task) → DoesSo play task → AnswersText any task log text (answer_at a)) → IfOk r (λ a. (task : Task) → DoesSo play task → ComesIn outward inward joined links task text (answer_at a))
    none_comes kind is none any log (Ok a) x = λ task so. by task (λ runs. none (subst (λ (t : Task). RunsParties t) (is task so) runs)) (answer_at a) (x task so)
      where
        by : (task : Task) → (RunsParties task → ⊥) → (a : AnswerAt) → AnswersText any task log text a → ComesIn outward inward joined links task text a
        by task idle (Damaged t) x = absurd (idle x.answers.1)
        by task idle (Ran v t) x = λ runs. absurd (idle runs)
        by task idle a x = tt
    none_comes kind is none any log (Err e) x = tt

  -- a part of a source is answered so only where it is all of it
  pub part_comes : (links : LinkUseAt) (task : Task) (source part : List ℕ) (a : AnswerAt) → (RunsParties task → ⊥) → ComesIn outward inward joined links task part a → ComesIn outward inward joined links task source a
  part_comes links task source part (Damaged t) none x = absurd (none x.runs)
  part_comes links task source part (Ran v t) none x = λ runs. absurd (none runs)
  part_comes links task source part a none x = tt

  -- of the bytes of a call
  call_comes : (c : CallAt) (task : Task) (bytes : List ℕ) (a : AnswerAt) → Asks c.words task → HasInput c task bytes → ComesIn outward inward joined c.links task bytes a → ComesOf outward inward joined c a
  call_comes c task bytes (Damaged t) asks input x = (
    record { task = task; asks = asks; bytes = bytes; input = input; text = bytes; log = no_log; parts = run_parts task bytes x.runs; file = x.file; stands = x.stands },
    x.told,
  )
  call_comes c task bytes (Ran v t) asks input x =
      λ asked.
      let runs = subst (λ (t : Task). RunsParties t) (one_task c.words asked.task task asked.asks asks) asked.kind in
      let y = x runs in (
        record { task = task; asks = asks; bytes = bytes; input = input; text = bytes; log = no_log; parts = run_parts task bytes runs; file = y.file; stands = y.stands },
        y.ran no_log,
      )
  call_comes c task bytes a asks input x = tt

  pub calls_come : {E : Type 0} (c : CallAt) (task : Task) (bytes : List ℕ) (play : Play) (r : Result Answer E) → Asks c.words task → HasInput c task bytes → DoesSo play task
      → IfOk r (λ a. (t : Task) → DoesSo play t → ComesIn outward inward joined c.links t bytes (answer_at a)) → IfOk r (λ a. ComesOf outward inward joined c (answer_at a))
  calls_come c task bytes play (Ok a) asks input so x = call_comes c task bytes (answer_at a) asks input (x task so)
  calls_come c task bytes play (Err e) asks input so x = tt

  module _ (c : CallAt) (status : ℕ) (before after : Option (List ℕ)) (a : AnswerAt) (comes : ComesOf outward inward joined c a) (is : status ≡ status_of a) (wrote : after ≡ put_behind before (text_of a)) where
    -- what is written with the status of damage
    pub damage_written : status ≡ 9 → WritesDamage outward inward joined c before after
    damage_written nine =
        let (text, same) = damage_by a (sym is ∙ nine) in
        record {
          text = text;
          tells_it = subst (λ (b : AnswerAt). ComesOf outward inward joined c b) same comes;
          written = wrote ∙ ap (λ (b : AnswerAt). put_behind before (text_of b)) same;
        }

    -- what is written with a verdict, where parties are run
    pub run_written : IsInTable c a → IsVerdict status → AsksFor RunsParties c → WritesRun outward inward joined c status before after
    run_written row verdict asked =
        let p = came_of_run c status verdict asked a row is in
        let there : ComesOf outward inward joined c (Ran p.verdict p.text) = subst (λ (b : AnswerAt). ComesOf outward inward joined c b) p.is comes in
        record {
          verdict = p.verdict;
          stands = is ∙ ap status_of p.is;
          text = p.text;
          tells_it = there asked;
          written = wrote ∙ ap (λ (b : AnswerAt). put_behind before (text_of b)) p.is;
        }
