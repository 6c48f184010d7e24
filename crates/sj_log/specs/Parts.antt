-- The source of a replay: a file, a line `%%log` or `%%log2`, and a log.
use Rattle.std.specs.Prelude.{◌≡◌, ◌⊎◌, ◌≤◌, ℕ, List, [], ◌++◌, codes, length, ◌+◌, take, drop, Option, Some, None}
pub use Rattle.sj_print.specs.Version.{IsVersion, mark_of}

-- whole lines: nothing, or a newline stands last
abbrev pub AreLines : List ℕ → Type 0
AreLines bytes = (bytes ≡ []) ⊎ ((front : List ℕ) × (bytes ≡ front ++ codes "\n"))

-- that line stands after the text, and before the log
pub record IsMarked (mark source text log : List ℕ) : Type 0 where
  pub lines : AreLines text
  pub whole : source ≡ text ++ (mark ++ log)

-- it stands first after so many bytes, or nowhere
abbrev pub IsFirst : (mark source : List ℕ) → Option ℕ → Type 0
IsFirst mark source (Some at) = IsMarked mark source (take at source) (drop (at + length mark) source)
    × ((other rest : List ℕ) → IsMarked mark source other rest → at ≤ length other)
IsFirst mark source None = (text log : List ℕ) → IsMarked mark source text log → ⊥

-- the line of that version stands so: `%%log` before a log of version 1, `%%log2` before one of version 2
pub record IsPart (source text : List ℕ) (version : ℕ) (log : List ℕ) : Type 0 where
  pub known : IsVersion version
  pub marked : IsMarked (mark_of version) source text log

-- the first line that is one of the two parts the source
pub record IsParted (source text : List ℕ) (version : ℕ) (log : List ℕ) : Type 0 where
  pub here : IsPart source text version log
  pub first : (other : List ℕ) (v : ℕ) (rest : List ℕ) → IsPart source other v rest → length text ≤ length other

-- no line is one of the two
abbrev pub HasNoPart : List ℕ → Type 0
HasNoPart source = (text : List ℕ) (version : ℕ) (log : List ℕ) → IsPart source text version log → ⊥
