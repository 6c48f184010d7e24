-- Tables in which names and texts have their numbers.
use Rattle.std.specs.Prelude.{◌≡◌, ◌≢◌, ℕ, ◌<◌, ◌≤◌, IsTrue, List, [], ◌∷◌, ◌++◌, length, if◌then◌else◌}
use Rattle.std.specs.List.{list_any, list_all}
use Rattle.std.specs.Str.{bytes_eq}
use Rattle.std.proofs.Common.{get_or}
use Rattle.sj_grammar.specs.Bytes.{is_printable}
use Rattle.sj_grammar.specs.Names.{is_name}
use Rattle.sj_lang.specs.Limits.{Limits}

-- an entry gets its number where it is new
abbrev pub with_entry : List (List ℕ) → List ℕ → List (List ℕ)
with_entry table s = if list_any (λ w. bytes_eq w s) table then table else table ++ s ∷ []

-- what each number is spelled as
pub record Spelling : Type 0 where
  pub word : ℕ → List ℕ
  pub text : ℕ → List ℕ

-- each number of the table is spelled as the table has it
abbrev pub Spells : (ℕ → List ℕ) → List (List ℕ) → Type 0
Spells spelled table = (n : ℕ) → n < length table → spelled n ≡ get_or table n []

-- the spelling of a table
abbrev pub entry_of : List (List ℕ) → ℕ → List ℕ
entry_of table n = get_or table n []

-- no smaller number is spelled so
abbrev pub IsFirst : (ℕ → List ℕ) → ℕ → Type 0
IsFirst spelled n = (k : ℕ) → k < n → spelled k ≢ spelled n

-- the number stands for a name
pub record IsNamed (L : Limits) (word : ℕ → List ℕ) (n : ℕ) : Type 0 where
  pub name : IsTrue (is_name (word n))
  pub short : length (word n) ≤ L.name
  pub first : IsFirst word n

-- the number stands for a text
pub record IsLiteral (L : Limits) (text : ℕ → List ℕ) (n : ℕ) : Type 0 where
  pub printable : IsTrue (list_all is_printable (text n))
  pub short : length (text n) ≤ L.text
  pub first : IsFirst text n
