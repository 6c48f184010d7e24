-- What a program answers to the words that its caller gives.
use Rattle.std.specs.Prelude.{◌≡◌, ◌⊎◌, ℕ, List}
use Rattle.std.specs.declared.alloc.Global.{Global}
use Rattle.std.specs.declared.string.String.{String}
use Rattle.sj_tool.specs.Answered.{HasAnswered, OwnAt, SinkAt}
use Rattle.sj_tool.specs.Calls.{CallAt}
use Rattle.sj_tool.specs.Texts.{no_memory_status}

-- the caller gives words to which the top call answers so
pub record IsAnswer (own : OwnAt) (gives : List (String Global) → Type 0) (called : List (String Global) → CallAt) (status : ℕ) (before after : SinkAt) : Type 0 where
  pub words : List (String Global)
  pub given : gives words
  pub answered : HasAnswered own (called words) status before after

-- so it is, or there was no memory for the words, and nothing was written
abbrev pub Enters : OwnAt → (List (String Global) → Type 0) → (List (String Global) → CallAt) → ℕ → SinkAt → SinkAt → Type 0
Enters own gives called status before after = IsAnswer own gives called status before after ⊎ ((status ≡ no_memory_status) × (after.written ≡ before.written))
