-- What an expression asks, in order.
use Rattle.std.specs.Prelude.{ℕ, Bool, true, ◌&&◌, Option, Some, None, is_some, unwrap_or, List, [], ◌∷◌, ◌++◌}
use Rattle.std.specs.Ordering.{nat_cmp}
use Rattle.std.specs.FinMap as map
use Rattle.std.specs.FinMap.{FinMap}
use Rattle.sj_lang.specs.declared.party.Scalar.{Scalar}
use Rattle.sj_lang.specs.declared.party.Scalar.TheVariants.{Int, Boolean, Text}
use Rattle.sj_lang.specs.declared.party.Op.{Op}
use Rattle.sj_lang.specs.declared.party.Op.TheVariants.{Equal}
use Rattle.sj_lang.specs.Term.{Term, int, boolean, text, var, not, two}
use Rattle.sj_acceptance.specs.Kinds.{given_by}
use Rattle.sj_acceptance.specs.Faults.{Test}
use Rattle.sj_acceptance.specs.Sameness.{is_same_kind}
use Rattle.sj_acceptance.specs.Rules.{not_there, other_kind}

-- the test of the kinds that an operator takes
abbrev pub takes : Op → Scalar → Scalar → Bool
takes Equal j k = is_same_kind j k
takes _ j k = is_same_kind j Int && is_same_kind k Int

-- the variable isn't known at another kind
abbrev pub is_free_for : Option Scalar → Scalar → Bool
is_free_for None k = true
is_free_for (Some j) k = is_same_kind j k

-- the kind of an expression that passes its tests
abbrev pub kind_of : FinMap nat_cmp Scalar → Term → Scalar
kind_of known (int n) = Int
kind_of known (boolean b) = Boolean
kind_of known (text n) = Text
kind_of known (var n) = unwrap_or (map.get known n) Int
kind_of known (not e) = Boolean
kind_of known (two op e f) = given_by op

-- the operands from left to right before their operator
abbrev pub term_tests : ℕ → FinMap nat_cmp Scalar → Term → List Test
term_tests line known (int n) = []
term_tests line known (boolean b) = []
term_tests line known (text n) = []
term_tests line known (var n) = (not_there, line, is_some (map.get known n)) ∷ []
term_tests line known (not e) = term_tests line known e ++ (other_kind, line, is_same_kind (kind_of known e) Boolean) ∷ []
term_tests line known (two op e f) =
    term_tests line known e ++ term_tests line known f ++ (other_kind, line, takes op (kind_of known e) (kind_of known f)) ∷ []
