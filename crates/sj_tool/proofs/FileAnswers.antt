-- What answers a file answers its text, and what reports a refusal answers the file.
use Rattle.std.proofs.Common.{◌≡◌, ℕ, true, List, Option, Result, Ok, Err, IfOk, inr, sym, subst}
use Rattle.std.specs.Prelude.{option_map, max}
use Rattle.sj_lang.specs.FileAt.{FileAt}
use Rattle.sj_grammar.specs.Files.{IsFile}
use Rattle.sj_acceptance.specs.Accepted.{IsAccepted}
use Rattle.sj_command.specs.declared.tasks.Task.{Task}
use Rattle.sj_end.specs.Lines.{line_at}
use Rattle.sj_lane.specs.Told as lanes
use Rattle.sj_rules.specs.History.{IsFirstMisfit}
use Rattle.sj_rules.specs.Log.{LineAt}
use Rattle.sj_run.specs.Damage.{IsDamage, IsDamaged, IsDamagedSo}
use Rattle.sj_run.specs.declared.refusal.RunRefusal.{RunRefusal}
use Rattle.sj_run.specs.declared.refusal.RunRefusal.TheVariants as refusals
use Rattle.sj_tool.specs.LogAt.{LogAt, Spells, log_at}
use Rattle.sj_tool.specs.declared.answers.Answer.{Answer}
use Rattle.sj_tool.specs.declared.plans.Play.{Play}
use Rattle.sj_tool.specs.declared.plans.Play.TheVariants as plays
use Rattle.sj_tool.specs.declared.plans.Running.{Running}
use Rattle.sj_tool.specs.AnswerAt.{AnswerAt, answer_at, Usage, ReadFault, TooLarge, Syntax, LogFault, Misfit, Damaged, Made, NoTalk}
use Rattle.sj_tool.specs.declared.replays.ReplayFault.{ReplayFault}
use Rattle.sj_tool.specs.declared.replays.ReplayFault.TheVariants as faults
use Rattle.sj_tool.specs.Answers.{AnswersFile}
use Rattle.sj_tool.specs.Layers.{AnswersBytes, AnswersText}
use Rattle.sj_tool.specs.Plans.{DoesSo, RunsSo}
use Rattle.sj_tool.specs.Calls.{LinkUseAt}
use Rattle.sj_tool.specs.Entries.{IsDamagedBy, IsToldMisfit, IsToldSo}
use Rattle.sj_tool.specs.Tasks.{HasParts, Replays as IsReplay, RunsParties}
use Rattle.sj_tool.specs.Replays.{IsRefusedBy, IsToldFault}

-- ---- from a file to its text, and from there to the bytes

pub answers_text : (links : LinkUseAt) (task : Task) (log : LogAt) (text : List ℕ) (file : FileAt) (a : AnswerAt) → IsFile text file → AnswersFile links task log file a → AnswersText links task log text a
answers_text links task log text file Usage stands x = absurd x
answers_text links task log text file ReadFault stands x = absurd x
answers_text links task log text file TooLarge stands x = absurd x
answers_text links task log text file NoTalk stands x = absurd x
answers_text links task log text file (Syntax f) stands x = absurd x
answers_text links task log text file (Made t) stands x = absurd x
answers_text links task log text file a stands x = record { file = file; stands = stands; answers = x }

-- the same of a result, for each task that does so: whatever links and log there are, or one of
-- them
module _ (play : Play) (text : List ℕ) (file : FileAt) (stands : IsFile text file) where
  module _ (kind : Task) (is : (task : Task) → DoesSo play task → task ≡ kind) where
    abbrev pub AnswersKind : LinkUseAt → LogAt → Answer → Type 0
    AnswersKind links log a = (task : Task) → DoesSo play task → AnswersText links task log text (answer_at a)

    kind_answers : (links : LinkUseAt) (log : LogAt) (a : Answer) → AnswersFile links kind log file (answer_at a) → AnswersKind links log a
    kind_answers links log a x task so = subst (λ (t : Task). AnswersText links t log text (answer_at a)) (sym (is task so)) (answers_text links kind log text file (answer_at a) stands x)

    pub any_answers : {E : Type 0} (links : LinkUseAt) (log : LogAt) (r : Result Answer E) → IfOk r (λ a. (l : LinkUseAt) (any : LogAt) → AnswersFile l kind any file (answer_at a)) → IfOk r (AnswersKind links log)
    any_answers links log (Ok a) x = kind_answers links log a (x links log)
    any_answers links log (Err e) x = tt

    pub log_answers : {E : Type 0} (links : LinkUseAt) (log : LogAt) (r : Result Answer E) → IfOk r (λ a. (l : LinkUseAt) → AnswersFile l kind log file (answer_at a)) → IfOk r (AnswersKind links log)
    log_answers links log (Ok a) x = kind_answers links log a (x links)
    log_answers links log (Err e) x = tt

    -- lines of a talk, whatever version a log of theirs had
    pub talk_answers : {E : Type 0} (links : LinkUseAt) (version : ℕ) (lines : List ℕ) (r : Result Answer E) → IfOk r (λ a. (l : LinkUseAt) (v : ℕ) → AnswersFile l kind (log_at v lines) file (answer_at a)) → IfOk r (AnswersKind links (log_at version lines))
    talk_answers links version lines (Ok a) x = kind_answers links (log_at version lines) a (x links version)
    talk_answers links version lines (Err e) x = tt

  -- parties that run
  pub links_answers : {E : Type 0} (run : Running) → play ≡ plays.Run run → (links : LinkUseAt) (log : LogAt) (r : Result Answer E) → IfOk r (λ a. (t : Task) (any : LogAt) → RunsSo run t → AnswersFile links t any file (answer_at a))
      → IfOk r (λ a. (task : Task) → DoesSo play task → AnswersText links task log text (answer_at a))
  links_answers run is links log (Ok a) x = λ task so. answers_text links task log text file (answer_at a) stands (x task log (subst (λ (p : Play). DoesSo p task) is so))
  links_answers run is links log (Err e) x = tt

pub answers_bytes : (links : LinkUseAt) (task : Task) (bytes text : List ℕ) (log : LogAt) (a : AnswerAt) → HasParts task bytes text log → AnswersText links task log text a → AnswersBytes links task bytes a
answers_bytes links task bytes text log TooLarge parts x = absurd x.answers
answers_bytes links task bytes text log NoTalk parts x = absurd x.answers
answers_bytes links task bytes text log (LogFault r l) parts x = inr (record { text = text; log = log; parts = parts; answers = x })
answers_bytes links task bytes text log a parts x = record { text = text; log = log; parts = parts; answers = x }

-- ---- what reports a refusal

damaged_answers : (links : LinkUseAt) (task : Task) (runs : RunsParties task) (log : LogAt) (file : FileAt) (number : ℕ) (logged : LineAt) (other : Option LineAt) (a : AnswerAt) → IsAccepted file → (links.tells ≡ true → ⊥)
    → IsDamage file number logged other → IsDamagedBy file number logged other a → AnswersFile links task log file a
damaged_answers links task runs log file number logged other (Damaged t) ok blind damage by =
    (ok, runs, blind, record { number = number; logged = logged; other = other; damage = damage; told = by })
damaged_answers links task runs log file number logged other a ok blind damage by = absurd by

misfit_answers : (links : LinkUseAt) (task : Task) (replays : IsReplay task) (log : LogAt) (file : FileAt) (lines : List LineAt) (number : ℕ) (logged : LineAt) (other : Option LineAt) (a : AnswerAt) → IsAccepted file
    → Spells file log lines → IsFirstMisfit max file lines number logged other → IsToldMisfit file number logged other a → AnswersFile links task log file a
misfit_answers links task replays log file lines number logged other (Misfit t) ok spells misfit by =
    (ok, replays, record { lines = lines; spells = spells; number = number; logged = logged; other = other; misfit = misfit; told = by })
misfit_answers links task replays log file lines number logged other a ok spells misfit by = absurd by

-- a refusal of the parties' run, reported by the answer
pub told_answers : (links : LinkUseAt) (task : Task) (runs : RunsParties task) (log : LogAt) (file : FileAt) (r : RunRefusal) (a : AnswerAt) → IsAccepted file → (r ≡ refusals.LinkFault → lanes.Rose links.faults links.faults_after)
    → IsDamagedSo file r → (IsDamaged r → links.tells ≡ true → ⊥) → IsToldSo file r a → AnswersFile links task log file a
told_answers links task runs log file refusals.LinkFault a ok rose damage blind told =
    subst (λ (b : AnswerAt). AnswersFile links task log file b) (sym told) (ok, runs, rose (λ i. refusals.LinkFault))
told_answers links task runs log file (refusals.Damaged m) a ok rose damage blind told =
    damaged_answers links task runs log file m.number (line_at m.logged) (option_map line_at m.due) a ok (blind (tt {0})) damage told
told_answers links task runs log file refusals.NoMemory a ok rose damage blind told = absurd told

-- a fault of a replay, reported by the answer
pub fault_answers : (links : LinkUseAt) (task : Task) (replays : IsReplay task) (log : LogAt) (file : FileAt) (r : ReplayFault) (a : AnswerAt) → IsAccepted file → IsRefusedBy file log r → IsToldFault file r a
    → AnswersFile links task log file a
fault_answers links task replays log file (faults.Text rule line) a ok fault told =
    subst (λ (z : AnswerAt). AnswersFile links task log file z) (sym told) (ok, replays, fault)
fault_answers links task replays log file (faults.Entry m) a ok refused told =
    let (lines, spells, misfit) = refused in
    misfit_answers links task replays log file lines m.number (line_at m.logged) (option_map line_at m.due) a ok spells misfit told
fault_answers links task replays log file faults.NoMemory a ok refused told = absurd told
