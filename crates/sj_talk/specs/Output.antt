-- The output of a talk: a line for each line, and the verdict.
use Rattle.std.specs.Prelude.{◌≡◌, ℕ, ◌+◌, List, [], ◌∷◌, ◌++◌, length, codes, decimal}
use Rattle.sj_lang.specs.FileAt.{FileAt}
use Rattle.sj_semantics.specs.Lines.{line_of, message_words}
use Rattle.sj_semantics.specs.Transcript.{verdict_word}
use Rattle.sj_semantics.specs.declared.Verdict.{Verdict}
use Rattle.sj_text.specs.Cut.{IsCutShort}
use Rattle.sj_talk.specs.Doing.{IsUnsaid, after_line, said_of}
use Rattle.sj_talk.specs.TalkWorld.{OnlyOthers, TalkWorld, others_acted, talk_verdict}
use Rattle.sj_talk.specs.Words.{lines_in}
use Rattle.sj_talk.specs.declared.said.Said.{Said}
use Rattle.sj_talk.specs.declared.said.Said.TheVariants as said

-- the words for line number n of which that is said
abbrev pub said_words : FileAt → ℕ → Said → List (List ℕ)
said_words file n said.Fine = codes "ok" ∷ []
said_words file n (said.Took m) = codes "took" ∷ message_words file m
said_words file n (said.Refused g) = codes "refused" ∷ decimal n ∷ (71 ∷ decimal g) ∷ []

-- what is printed of line number n, by the file with the text that it added
abbrev pub line_text : ℕ → TalkWorld → List ℕ → List ℕ
line_text n t line = line_of (said_words (after_line (others_acted t) line).file n (said_of (others_acted t) line))

-- the world that lines leave, where the others act before each of them
abbrev pub after_lines : TalkWorld → List (List ℕ) → TalkWorld
after_lines t [] = t
after_lines t (l ∷ ls) = after_lines (after_line (others_acted t) l) ls

-- and in which the others have acted once more
abbrev pub played_from : TalkWorld → List (List ℕ) → TalkWorld
played_from t ls = others_acted (after_lines t ls)

-- what is printed of lines, from number n on
abbrev pub told_from : ℕ → TalkWorld → List (List ℕ) → List ℕ
told_from n t [] = []
told_from n t (l ∷ ls) = line_text n t l ++ told_from (n + 1) (after_line (others_acted t) l) ls

-- the line of a verdict
abbrev pub verdict_line : Verdict → List ℕ
verdict_line v = line_of (verdict_word v ∷ [])

-- how a talk over that text ends
unfoldable pub talk_end : TalkWorld → List ℕ → Verdict
talk_end t text = talk_verdict (played_from t (lines_in text))

-- what a talk over that text prints
unfoldable pub talk_text : TalkWorld → List ℕ → List ℕ
talk_text t text = told_from 1 t (lines_in text) ++ verdict_line (talk_end t text)

-- ---- out of memory

-- what comes next isn't done: a line, or the others' acts at the end
abbrev pub IsNotDone : TalkWorld → List (List ℕ) → TalkWorld → Type 0
IsNotDone t [] u = OnlyOthers t u
IsNotDone t (l ∷ ls) u = IsUnsaid t l u

-- what comes next is done
abbrev pub IsDone : TalkWorld → List (List ℕ) → TalkWorld → Type 0
IsDone t [] u = u ≡ others_acted t
IsDone t (l ∷ ls) u = u ≡ after_line (others_acted t) l

-- what is printed of it, with the number that a line has
abbrev pub next_text : ℕ → TalkWorld → List (List ℕ) → List ℕ
next_text n t [] = verdict_line (talk_verdict (others_acted t))
next_text n t (l ∷ ls) = line_text n t l

-- of what comes next nothing is printed, where it isn't done, and else a prefix
pub data StopsAt (n : ℕ) (t : TalkWorld) (left : List (List ℕ)) (u : TalkWorld) (old new : List ℕ) : Type 0 where
  undone : IsNotDone t left u → new ≡ old → StopsAt n t left u old new
  cut : IsDone t left u → IsCutShort old (next_text n t left) new → StopsAt n t left u old new

-- a talk over that text stops: some lines are done and printed, and then it stops at what comes next
pub record BreaksOff (t : TalkWorld) (text : List ℕ) (u : TalkWorld) (old new : List ℕ) : Type 0 where
  pub done : List (List ℕ)
  pub left : List (List ℕ)
  pub lines : lines_in text ≡ done ++ left
  pub stops : StopsAt (length done + 1) (after_lines t done) left u (old ++ told_from 1 t done) new
