-- The rows of the table of answers.
use Rattle.std.proofs.Common.{◌≡◌, inl, inr, ◌<◌, ◌≤◌, ℕ, List, subst, refl}
use Rattle.sj_base.specs.Stream.{Rose}
use Rattle.sj_command.specs.declared.tasks.Task.{Task}
use Rattle.sj_command.specs.declared.tasks.Task.TheVariants as tasks
use Rattle.sj_command.specs.Task.{Asks, IsUsage}
use Rattle.sj_command.proofs.OneTask.{one_task}
use Rattle.sj_tool.specs.AnswerAt.{AnswerAt, Usage, ReadFault, TooLarge, NoTalk, Syntax, LogFault, LinkFault, Damaged, Ran, Made}
use Rattle.sj_tool.proofs.InputAnswers.{AnswersInput, file_input}
use Rattle.sj_tool.proofs.InputLemmas.{long_tail}
use Rattle.sj_tool.specs.Texts.{status_of, text_of}
use Rattle.sj_tool.specs.Answers.{Came, HoldsBytes, IsInTable, Makes}
use Rattle.sj_tool.specs.Layers.{AnswersBytes}
use Rattle.sj_tool.specs.Calls.{CallAt}
use Rattle.sj_tool.specs.Tasks.{Reads, Takes}
use Rattle.sj_tool.specs.Table.{NoFaultAbove}

-- which row an answer is
pub data Row (c : CallAt) (a : AnswerAt) : Type 0 where
  words : a ≡ Usage → IsUsage c.words → Row c a
  fault : a ≡ ReadFault → Came (λ n most. n ≤ most) c → Rose c.faults c.faults_after → Row c a
  large : a ≡ TooLarge → Came (λ n most. most < n) c → c.faults_after ≡ c.faults → Row c a
  made : (text : List ℕ) → status_of a ≡ 0 → text_of a ≡ text → Makes c text → Row c a
  input : AnswersInput c a → Row c a

bytes_input : (c : CallAt) (a : AnswerAt) (h : HoldsBytes c) → AnswersBytes c.links h.task h.bytes a → AnswersInput c a
bytes_input c a h x = record { task = h.task; asks = h.asks; bytes = h.bytes; input = h.input; answers = x }

pub row_of : (c : CallAt) (a : AnswerAt) → IsInTable c a → Row c a
row_of c Usage h = words refl h.0
row_of c ReadFault h = fault refl h.0 h.1
row_of c TooLarge h = elim h [ inl l ↦ large refl l.0 l.1 | inr x ↦ input (bytes_input c TooLarge x.0 x.1) ]
row_of c NoTalk h = input (bytes_input c NoTalk h.0 (h.1, h.2))
row_of c (Syntax f) h =
    let wrong = h.1 in input (bytes_input c (Syntax f) h.0 (record { text = wrong.text; log = wrong.log; parts = wrong.parts; answers = (wrong.takes, wrong.stuck) }))
row_of c (LogFault r k) h = elim h [ inl m ↦ input (bytes_input c (LogFault r k) m.0 (inl m.1)) | inr x ↦ input (file_input c (LogFault r k) x.0 x.1) ]
row_of c (Made t) h = made t refl refl h
row_of c a h = input (file_input c a h.0 h.1)

-- a task that reads a file takes one
pub reads_takes : (task : Task) → Reads task → Takes task
reads_takes (tasks.Make n) reads = reads
reads_takes task reads = tt

-- the file that is made is no task that takes one
pub made_takes : (c : CallAt) (text : List ℕ) (task : Task) → Makes c text → Asks c.words task → Takes task → ⊥
made_takes c text task m asks takes = subst (λ (t : Task). Takes t) (one_task c.words task (tasks.Make m.count) asks m.asks) takes

-- where an input is answered, a read fault above it is ruled out
pub no_rise : (c : CallAt) (a : AnswerAt) → AnswersInput c a → NoFaultAbove c a → Rose c.faults c.faults_after → ⊥
no_rise c Usage x h r = absurd x.answers.answers.answers
no_rise c ReadFault x h r = absurd h
no_rise c TooLarge x h r = h (record { task = x.task; asks = x.asks; kind = long_tail x.task x.bytes x.answers }) r
no_rise c LinkFault x h r = absurd h
no_rise c (Damaged t) x h r = absurd h
no_rise c (Ran v t) x h r = h.0 r
no_rise c (Made t) x h r = absurd x.answers.answers.answers
no_rise c a x h r = h r
