-- What answers the bytes of a call comes to its row of the table.
use Rattle.std.proofs.Common.{ℕ, List, Result, Ok, Err, IfOk, inl, inr}
use Rattle.sj_command.specs.declared.tasks.Task.{Task}
use Rattle.sj_command.specs.declared.tasks.Task.TheVariants as tasks
use Rattle.sj_command.specs.Task.{Asks}
use Rattle.sj_tool.specs.declared.answers.Answer.{Answer}
use Rattle.sj_tool.specs.declared.plans.Play.{Play}
use Rattle.sj_tool.specs.AnswerAt.{AnswerAt, answer_at, Usage, ReadFault, TooLarge, NoTalk, Syntax, LogFault, Made}
use Rattle.sj_tool.specs.Answers.{AnswersFile, HoldsFile, IsInTable}
use Rattle.sj_tool.specs.Calls.{CallAt}
use Rattle.sj_tool.specs.Layers.{AnswersBytes}
use Rattle.sj_tool.specs.Plans.{DoesSo}
use Rattle.sj_tool.specs.Tasks.{HasInput, IsRead, Reads}
use Rattle.sj_tool.proofs.FileAnswers.{answers_bytes, answers_text}

-- the words ask for a task, and the answer answers its bytes
pub record AnswersInput (c : CallAt) (a : AnswerAt) : Type 0 where
  pub task : Task
  pub asks : Asks c.words task
  pub bytes : List ℕ
  pub input : HasInput c task bytes
  pub answers : AnswersBytes c.links task bytes a

-- what answers the file that the bytes hold answers them
pub file_input : (c : CallAt) (a : AnswerAt) (h : HoldsFile c) → AnswersFile c.links h.task h.log h.file a → AnswersInput c a
file_input c a h x = record {
  task = h.task;
  asks = h.asks;
  bytes = h.bytes;
  input = h.input;
  answers = answers_bytes c.links h.task h.bytes h.text h.log a h.parts (answers_text c.links h.task h.log h.text h.file a h.stands x);
}

-- what answers an input comes
pub input_comes : (c : CallAt) (a : AnswerAt) → AnswersInput c a → IsInTable c a
input_comes c Usage x = absurd x.answers.answers.answers
input_comes c ReadFault x = absurd x.answers.answers.answers
input_comes c TooLarge x = inr (record { task = x.task; asks = x.asks; bytes = x.bytes; input = x.input }, x.answers)
input_comes c NoTalk x = (record { task = x.task; asks = x.asks; bytes = x.bytes; input = x.input }, x.answers.0, x.answers.1)
input_comes c (Syntax f) x = (
  record { task = x.task; asks = x.asks; bytes = x.bytes; input = x.input },
  record { text = x.answers.text; log = x.answers.log; parts = x.answers.parts; takes = x.answers.answers.0; stuck = x.answers.answers.1 },
)
input_comes c (LogFault r k) x =
    elim x.answers [
      | inl m ↦ inl (record { task = x.task; asks = x.asks; bytes = x.bytes; input = x.input }, m)
      | inr p ↦ inr (
        record {
          task = x.task;
          asks = x.asks;
          bytes = x.bytes;
          input = x.input;
          text = p.text;
          log = p.log;
          parts = p.parts;
          file = p.answers.file;
          stands = p.answers.stands;
        },
        p.answers.answers,
      )
    ]
input_comes c (Made t) x = absurd x.answers.answers.answers
input_comes c a x = (
  record {
    task = x.task;
    asks = x.asks;
    bytes = x.bytes;
    input = x.input;
    text = x.answers.text;
    log = x.answers.log;
    parts = x.answers.parts;
    file = x.answers.answers.file;
    stands = x.answers.answers.stands;
  },
  x.answers.answers.answers,
)

pub bytes_come : {E : Type 0} (c : CallAt) (task : Task) (bytes : List ℕ) (play : Play) (r : Result Answer E) → Asks c.words task → HasInput c task bytes → DoesSo play task
    → IfOk r (λ a. (t : Task) → DoesSo play t → AnswersBytes c.links t bytes (answer_at a)) → IfOk r (λ a. IsInTable c (answer_at a))
bytes_come c task bytes play (Ok a) asks input so x = input_comes c (answer_at a) (record { task = task; asks = asks; bytes = bytes; input = input; answers = x task so })
bytes_come c task bytes play (Err e) asks input so x = tt

-- what is read is the input of a task that reads
pub read_input : (c : CallAt) (task : Task) (bytes : List ℕ) → Reads task → IsRead c task bytes → HasInput c task bytes
read_input c (tasks.Big n) bytes reads x = absurd reads
read_input c task bytes reads x = x
