-- The kinds of expressions.
use Rattle.std.specs.Prelude.{◌≡◌, ℕ, Option, Some}
use Rattle.sj_lang.specs.declared.party.Op.{Op}
use Rattle.sj_lang.specs.declared.party.Op.TheVariants.{Add, Sub, Mul, Less, LessEq, Equal}
use Rattle.sj_lang.specs.declared.party.Scalar.{Scalar}
use Rattle.sj_lang.specs.declared.party.Scalar.TheVariants.{Int, Boolean, Text}
use Rattle.sj_lang.specs.Place.{Carried}
use Rattle.sj_lang.specs.Place as carried
use Rattle.sj_lang.specs.Term.{Term, int, boolean, text, var, not, two}

-- what a message of that kind carries
abbrev pub carried_by : Scalar → Carried
carried_by Int = carried.int
carried_by Boolean = carried.boolean
carried_by Text = carried.text

-- the kinds that an operator takes
abbrev pub Takes : Op → Scalar → Scalar → Type 0
Takes Equal j k = j ≡ k
Takes _ j k = (j ≡ Int) × (k ≡ Int)

-- the kind that it gives
abbrev pub given_by : Op → Scalar
given_by Add = Int
given_by Sub = Int
given_by Mul = Int
given_by Less = Boolean
given_by LessEq = Boolean
given_by Equal = Boolean

-- the expression is of that kind, where the variables are of these
abbrev pub HasKind : (ℕ → Option Scalar) → Term → Scalar → Type 0
HasKind known (int n) k = k ≡ Int
HasKind known (boolean b) k = k ≡ Boolean
HasKind known (text n) k = k ≡ Text
HasKind known (var n) k = known n ≡ Some k
HasKind known (not e) k = HasKind known e Boolean × (k ≡ Boolean)
HasKind known (two op e f) k =
    (i : Scalar) × (j : Scalar) × HasKind known e i × HasKind known f j × Takes op i j × (k ≡ given_by op)
