-- Numbers that are known before a file runs.
use Rattle.std.specs.Prelude.{◌≡◌, ℤ, List, Some, All}
use Rattle.sj_lang.specs.Term.{Term}
use Rattle.sj_semantics.specs.declared.Value.TheVariants.{Int}
use Rattle.sj_semantics.specs.Value.{Vars, worth}
use Rattle.sj_explain.specs.declared.counts.Entry.{Entry}

-- the variables have these numbers
abbrev pub AgreeWith : List Entry → Vars → Type 0
AgreeWith entries vars = All (λ e. vars e.name ≡ Some (Int e.count.value)) entries

-- wherever the variables have these numbers, the expression is worth that one
abbrev pub IsWorth : List Entry → Term → ℤ → Type 0
IsWorth entries term n = (vars : Vars) → AgreeWith entries vars → worth vars term ≡ Some (Int n)
