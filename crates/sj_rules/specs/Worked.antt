-- What a row leaves, and what it sends.
use Rattle.std.specs.Prelude.{ℕ, List, ◌++◌, map}
use Rattle.sj_rules.specs.Record.{BodyAt, Mail}

-- what a row leaves, and what it sends
pub record Worked (P : Type 0) (R : Type 0) : Type 0 where
  pub state : R
  pub posts : List (Mail P)

-- these bodies, all to that party, or as they came from it
abbrev pub mails_of : {P : Type 0} → ℕ → List (BodyAt P) → List (Mail P)
mails_of to bodies = map (λ b. record { party = to; body = b }) bodies

-- sent before the rest
abbrev pub with_first : {P R : Type 0} → List (Mail P) → Worked P R → Worked P R
with_first posts w = record w { posts = posts ++ w.posts }

-- sent after the rest
abbrev pub with_last : {P R : Type 0} → List (Mail P) → Worked P R → Worked P R
with_last posts w = record w { posts = w.posts ++ posts }
