-- The table has an answer for each call.
use Rattle.std.proofs.Common.{◌≡◌, ◌⊎◌, ℕ, Bool, List, [], Option, IfSome, length, inl, inr, refl, sym, subst}
use Rattle.std.proofs.lemmas.Bool.{cases_lt}
use Rattle.sj_lang.specs.FileAt.{FileAt}
use Rattle.sj_grammar.specs.Files.{IsFile}
use Rattle.sj_lang.specs.Limits.{limits, IsWithin, file_limit}
use Rattle.sj_log.specs.Parts.{HasNoPart}
use Rattle.sj_party.proofs.FileLemmas.{spelled_within}
use Rattle.sj_party_laws.proofs.AnswerLemmas.{file_or_fault}
use Rattle.sj_acceptance.specs.Accepted.{IsAccepted}
use Rattle.sj_generator.specs.Generated.{generated}
use Rattle.sj_command.specs.declared.tasks.Task.{Task}
use Rattle.sj_command.specs.declared.tasks.Task.TheVariants as tasks
use Rattle.sj_command.specs.Task.{Asks}
use Rattle.sj_command.proofs.OneTask.{one_task}
use Rattle.sj_tool.specs.LogAt.{LogAt, no_log, log_at}
use Rattle.sj_tool.specs.AnswerAt.{AnswerAt, Usage, TooLarge, Syntax, LogFault, Made, NoTalk}
use Rattle.sj_tool.specs.Answers.{IsInTable}
use Rattle.sj_tool.specs.Layers.{AnswersBytes, AnswersText}
use Rattle.sj_tool.specs.Calls.{CallAt, LinkUseAt, LinksHold}
use Rattle.sj_tool.specs.Runs.{HasBegun}
use Rattle.sj_tool.specs.Table.{IsReadAsAsked, ShowsItsRun, WasRead}
use Rattle.sj_tool.specs.TalkParts.{HasNoTalk}
use Rattle.sj_tool.specs.Tasks.{HasInput, HasParts, IsRead, IsUnread, Reads, RunsParties, Takes}
use Rattle.sj_tool.proofs.FileAnswered.{file_answered}
use Rattle.sj_tool.proofs.FileAnswers.{answers_bytes, answers_text}
use Rattle.sj_tool.proofs.InputAnswers.{input_comes}
use Rattle.sj_tool.proofs.PartedOrNot.{Parts, TalkParts, parts_or_none, talk_or_none}
use Rattle.sj_tool.proofs.RowKindLemmas.{reads_takes}
use Rattle.sj_tool.proofs.WordsLemmas.{asks_or_usage}

-- a file of the grammar is within the limits
file_within : (text : List ℕ) (file : FileAt) → IsFile text file → IsWithin limits file
file_within text file stands = spelled_within limits file stands.pieces stands.spelled

module _ (links : LinkUseAt) where
  -- the links show how each file that the text stands for began, where parties run
  abbrev Shows : Task → (log : LogAt) (text : List ℕ) → Type 0
  Shows task log text = (file : FileAt) → IsFile text file → RunsParties task → IsAccepted file → LinksHold links → HasBegun links task log file

  text_answered : (task : Task) (log : LogAt) (text : List ℕ) → Takes task → Shows task log text → (a : AnswerAt) × AnswersText links task log text a
  text_answered task log text takes shows =
      elim (file_or_fault text) [
        | inl read ↦
            let (file, stands) = read in
            let (a, answers) = file_answered links log file (file_within text file stands) task takes (shows file stands) in
            (a, answers_text links task log text file a stands answers)
        | inr gone ↦ let (fault, stuck) = gone in (Syntax fault, (takes, stuck))
      ]

  parts_answered : (task : Task) (bytes : List ℕ) (log : LogAt) (text : List ℕ) → Takes task → HasParts task bytes text log → Shows task log text → (a : AnswerAt) × AnswersBytes links task bytes a
  parts_answered task bytes log text takes parts shows =
      let (a, answers) = text_answered task log text takes shows in (a, answers_bytes links task bytes text log a parts answers)

  replay_answered : (l : Bool) (bytes : List ℕ) → Parts bytes ⊎ HasNoPart bytes → (a : AnswerAt) × AnswersBytes links (tasks.Replay l) bytes a
  replay_answered l bytes (inr none) = (LogFault 1 0, inl (tt, none, refl, refl))
  replay_answered l bytes (inl p) =
      elim (cases_lt file_limit (length p.text)) [
        | inl long ↦ (TooLarge, record { text = p.text; log = p.log; parts = p.parted; long = long })
        | inr few ↦ parts_answered (tasks.Replay l) bytes p.log p.text tt (p.parted, few) (λ file stands runs. absurd runs)
      ]

  talk_answered : (n : ℕ) (bytes : List ℕ) → TalkParts bytes ⊎ HasNoTalk bytes → (a : AnswerAt) × AnswersBytes links (tasks.Talk n) bytes a
  talk_answered n bytes (inr none) = (NoTalk, (tt, none))
  talk_answered n bytes (inl p) =
      elim (cases_lt file_limit (length p.text)) [
        | inl long ↦ (TooLarge, record { text = p.text; log = log_at 1 p.lines; parts = (p.parted, refl); long = long })
        | inr few ↦ parts_answered (tasks.Talk n) bytes (log_at 1 p.lines) p.text tt ((p.parted, refl), few) (λ file stands runs. absurd runs)
      ]

  bytes_answered : (task : Task) (bytes : List ℕ) → Takes task → Shows task no_log bytes → (a : AnswerAt) × AnswersBytes links task bytes a
  bytes_answered (tasks.Replay l) bytes takes shows = replay_answered l bytes (parts_or_none bytes)
  bytes_answered (tasks.Talk n) bytes takes shows = talk_answered n bytes (talk_or_none bytes)
  bytes_answered (tasks.Make n) bytes takes shows = absurd takes
  bytes_answered task bytes takes shows = parts_answered task bytes no_log bytes takes (refl, refl) shows

module _ (c : CallAt) (same : c.faults_after ≡ c.faults) (was : IsReadAsAsked c) (shows : ShowsItsRun c) where
  input_answered : (task : Task) → Asks c.words task → Takes task → (bytes : List ℕ) → HasInput c task bytes → (a : AnswerAt) × IsInTable c a
  input_answered task asks takes bytes input =
      let (a, answers) = bytes_answered c.links task bytes takes (λ file stands runs accepted hold. shows task bytes file asks runs input stands accepted hold) in
      (a, input_comes c a (record { task = task; asks = asks; bytes = bytes; input = input; answers = answers }))

  unread : (task : Task) → Asks c.words task → (Reads task → ⊥) → IsUnread c
  unread task asks none = (was.unread (λ x. none (subst (λ (t : Task). Reads t) (one_task c.words x.task task x.asks asks) x.kind)), same)

  -- a task that reads has read all, or too much
  read_answered : (task : Task) → Asks c.words task → Reads task → ((bytes : List ℕ) → IsRead c task bytes → HasInput c task bytes) → WasRead task c → (a : AnswerAt) × IsInTable c a
  read_answered task asks reads input (inl many) = (TooLarge, inl (record { task = task; asks = asks; kind = (reads, many) }, same))
  read_answered task asks reads input (inr ((bytes, few, came), none)) =
      input_answered task asks (reads_takes task reads) bytes
      (input bytes (record { few = few; came = came; all = subst (λ (o : Option (List ℕ)). IfSome o (λ rest. rest ≡ [])) (sym none) refl; no_fault = same }))

  asked_answered : (task : Task) → Asks c.words task → (a : AnswerAt) × IsInTable c a
  asked_answered (tasks.Make n) asks = (Made (generated n), record { count = n; asks = asks; text = refl; unread = unread (tasks.Make n) asks (λ no. no) })
  asked_answered (tasks.Big n) asks = input_answered (tasks.Big n) asks tt (generated n) (unread (tasks.Big n) asks (λ no. no), refl)
  asked_answered task asks = read_answered task asks tt (λ bytes x. x) (was.read task asks tt)

  pub has_answer : (a : AnswerAt) × IsInTable c a
  has_answer =
      elim (asks_or_usage c.words) [
        | inl found ↦ let (task, asks) = found in asked_answered task asks
        | inr usage ↦ (Usage, (usage, (was.unread (λ x. usage x.task x.asks), same)))
      ]
