-- Answers, with their texts as bytes.
use Rattle.std.specs.Prelude.{ℕ, List}
use Rattle.sj_grammar.specs.declared.tokens.Fault.{Fault}
use Rattle.sj_semantics.specs.declared.Verdict.{Verdict}
use Rattle.sj_tool.specs.declared.answers.Answer.{Answer}
use Rattle.sj_tool.specs.declared.answers.Answer.TheVariants as answers

-- what is answered; texts stand where a file, a log or what parties did has to be reported
pub data AnswerAt : Type 0 where
  Usage ReadFault TooLarge NoTalk LinkFault : AnswerAt
  Syntax : (fault : Fault) → AnswerAt
  Check LogFault : (rule line : ℕ) → AnswerAt
  NoParty : (number : ℕ) → AnswerAt
  Misfit Damaged Printed Made : (text : List ℕ) → AnswerAt
  Ran : (verdict : Verdict) → (text : List ℕ) → AnswerAt

-- the answer of the code as such a value
abbrev pub answer_at : Answer → AnswerAt
answer_at answers.Usage = Usage
answer_at answers.ReadFault = ReadFault
answer_at answers.TooLarge = TooLarge
answer_at answers.NoTalk = NoTalk
answer_at (answers.Syntax fault) = Syntax fault
answer_at (answers.Check rule line) = Check rule line
answer_at (answers.NoParty number) = NoParty number
answer_at (answers.LogFault rule line) = LogFault rule line
answer_at (answers.Misfit text) = Misfit text.items
answer_at answers.LinkFault = LinkFault
answer_at (answers.Damaged text) = Damaged text.items
answer_at (answers.Ran verdict text) = Ran verdict text.items
answer_at (answers.Printed text) = Printed text.items
answer_at (answers.Made text) = Made text.items
