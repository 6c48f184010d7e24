-- What the program answers to its words and its input.
use Rattle.std.specs.Prelude.{◌≡◌, ◌⊎◌, ℕ, ◌<◌, ◌≤◌, false, true, List, [], Option, IfSome, length, codes}
use Rattle.sj_base.specs.Stream.{Rose, CameOf, WroteFrontOf, put_before, put_behind}
use Rattle.sj_text.specs.Statuses.{read_fault_status, too_large_status}
use Rattle.sj_lang.specs.Limits.{file_limit}
use Rattle.sj_explain.specs.declared.answers.CheckAnswer.{CheckAnswer}
use Rattle.sj_explain.specs.Answers.{IsAnswer, TellsIt, status_of}
use Rattle.sj_explain.specs.Words.{are_known, wants_drawn}

-- the words are none of the program
abbrev pub usage_status : ℕ
usage_status = 1

-- the words, and what a source has left and counts, before and after
pub record CallAt : Type 0 where
  pub words : List (List ℕ)
  pub left : Option (List ℕ)
  pub left_after : Option (List ℕ)
  pub faults : ℕ
  pub faults_after : ℕ

-- the words are none of the program, and nothing was read
pub record AnswersUsage (c : CallAt) (status : ℕ) (text : List ℕ) : Type 0 where
  pub unknown : are_known c.words ≡ false
  pub unread : c.left_after ≡ c.left
  pub no_fault : c.faults_after ≡ c.faults
  pub status_is : status ≡ usage_status
  pub text_is : text ≡ codes "usage: sjwhy [--svg] [--colour]\n"

-- the bytes are all that was left, no fault was counted, and the text says what they come to
pub record AnswersBytes (c : CallAt) (status : ℕ) (text : List ℕ) : Type 0 where
  pub known : are_known c.words ≡ true
  pub bytes : List ℕ
  pub few : length bytes ≤ file_limit
  pub came : c.left ≡ put_before bytes c.left_after
  pub all : IfSome c.left_after (λ rest. rest ≡ [])
  pub no_fault : c.faults_after ≡ c.faults
  pub answer : CheckAnswer
  pub is : IsAnswer bytes answer
  pub status_is : status ≡ status_of answer
  pub tells : TellsIt answer (wants_drawn c.words) text

-- a read failed
pub record AnswersFault (c : CallAt) (status : ℕ) (text : List ℕ) : Type 0 where
  pub known : are_known c.words ≡ true
  pub came : CameOf (λ n. n ≤ file_limit) c.left c.left_after
  pub rose : Rose c.faults c.faults_after
  pub status_is : status ≡ read_fault_status
  pub text_is : text ≡ codes "read fault\n"

-- more bytes came than a file may have, and no fault was counted
pub record AnswersTooLarge (c : CallAt) (status : ℕ) (text : List ℕ) : Type 0 where
  pub known : are_known c.words ≡ true
  pub came : CameOf (λ n. file_limit < n) c.left c.left_after
  pub no_fault : c.faults_after ≡ c.faults
  pub status_is : status ≡ too_large_status
  pub text_is : text ≡ codes "too large\n"

-- a status and a text that are due
abbrev pub IsAnswered : CallAt → ℕ → List ℕ → Type 0
IsAnswered c status text = AnswersUsage c status text ⊎ (AnswersBytes c status text ⊎ (AnswersFault c status text ⊎ AnswersTooLarge c status text))

-- a text that is due stands after what was written before
pub record AnswersOne (c : CallAt) (status : ℕ) (before after : Option (List ℕ)) : Type 0 where
  pub text : List ℕ
  pub comes : IsAnswered c status text
  pub written : after ≡ put_behind before text

-- a prefix of a text that is due stands there
pub record WroteFront (c : CallAt) (before after : Option (List ℕ)) : Type 0 where
  pub status : ℕ
  pub text : List ℕ
  pub comes : IsAnswered c status text
  pub front : WroteFrontOf text before after
