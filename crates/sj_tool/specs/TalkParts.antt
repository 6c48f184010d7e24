-- The source of a talk: a file, a line `%%talk`, and lines that play a party.
use Rattle.std.specs.Prelude.{◌≤◌, ℕ, List, codes, length}
use Rattle.sj_log.specs.Parts.{IsMarked}

abbrev pub talk_mark : List ℕ
talk_mark = codes "%%talk\n"

-- the first line `%%talk` parts the source
pub record IsTalk (source text lines : List ℕ) : Type 0 where
  pub here : IsMarked talk_mark source text lines
  pub first : (other rest : List ℕ) → IsMarked talk_mark source other rest → length text ≤ length other

-- no line is that one
abbrev pub HasNoTalk : List ℕ → Type 0
HasNoTalk source = (text lines : List ℕ) → IsMarked talk_mark source text lines → ⊥
