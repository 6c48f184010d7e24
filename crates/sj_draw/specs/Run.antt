-- What the program answers to its input.
use Rattle.std.specs.Prelude.{◌≡◌, ◌⊎◌, ℕ, ◌<◌, ◌≤◌, List, [], ◌++◌, Option, IfSome, length, decimal, codes}
use Rattle.sj_base.specs.Stream.{Rose, CameOf, WroteFrontOf, put_before, put_behind}
use Rattle.sj_text.specs.Statuses.{read_fault_status, too_large_status}
use Rattle.sj_draw.specs.Answer.{outcome_of}
use Rattle.sj_draw.specs.Drawn.{picture}
use Rattle.sj_draw.specs.Chart.{Outcome, Gathered, Unread, Beyond}

-- the most bytes of an input
abbrev pub most_bytes : ℕ
most_bytes = 67108864

abbrev pub status_of : Outcome → ℕ
status_of (Gathered f) = 0
status_of (Unread n) = 4
status_of (Beyond n) = 5

abbrev pub text_of : Outcome → List ℕ
text_of (Gathered f) = picture f
text_of (Unread n) = codes "line " ++ (decimal n ++ codes " is none of a transcript or a log\n")
text_of (Beyond n) = codes "line " ++ (decimal n ++ codes " passes a limit\n")

-- what a source has left and counts, before and after
pub record InputAt : Type 0 where
  pub left : Option (List ℕ)
  pub left_after : Option (List ℕ)
  pub faults : ℕ
  pub faults_after : ℕ

-- the bytes are all that was left, no fault was counted, and what comes of the bytes is answered
pub record AnswersBytes (i : InputAt) (status : ℕ) (text : List ℕ) : Type 0 where
  pub bytes : List ℕ
  pub few : length bytes ≤ most_bytes
  pub came : i.left ≡ put_before bytes i.left_after
  pub all : IfSome i.left_after (λ rest. rest ≡ [])
  pub no_fault : i.faults_after ≡ i.faults
  pub status_is : status ≡ status_of (outcome_of bytes)
  pub text_is : text ≡ text_of (outcome_of bytes)

-- a read failed
pub record AnswersFault (i : InputAt) (status : ℕ) (text : List ℕ) : Type 0 where
  pub came : CameOf (λ n. n ≤ most_bytes) i.left i.left_after
  pub rose : Rose i.faults i.faults_after
  pub status_is : status ≡ read_fault_status
  pub text_is : text ≡ codes "read fault\n"

-- more bytes came than an input may have, and no fault was counted
pub record AnswersTooLarge (i : InputAt) (status : ℕ) (text : List ℕ) : Type 0 where
  pub came : CameOf (λ n. most_bytes < n) i.left i.left_after
  pub no_fault : i.faults_after ≡ i.faults
  pub status_is : status ≡ too_large_status
  pub text_is : text ≡ codes "too large\n"

-- a status and a text that are due
abbrev pub IsAnswered : InputAt → ℕ → List ℕ → Type 0
IsAnswered i status text = AnswersBytes i status text ⊎ (AnswersFault i status text ⊎ AnswersTooLarge i status text)

-- a text that is due stands after what was written before
pub record AnswersOne (i : InputAt) (status : ℕ) (before after : Option (List ℕ)) : Type 0 where
  pub text : List ℕ
  pub comes : IsAnswered i status text
  pub written : after ≡ put_behind before text

-- a prefix of a text that is due stands there
pub record WroteFront (i : InputAt) (before after : Option (List ℕ)) : Type 0 where
  pub status : ℕ
  pub text : List ℕ
  pub comes : IsAnswered i status text
  pub front : WroteFrontOf text before after
