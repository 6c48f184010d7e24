-- Tests that compute whether two are equal.
use Rattle.std.specs.Prelude.{ℕ, Bool, true, false, ◌==◌, ◌&&◌, List, [], ◌∷◌}
use Rattle.std.specs.Ordering.{nat_cmp}
use Rattle.std.specs.FinMap as map
use Rattle.std.specs.FinMap.{FinMap}
use Rattle.sj_lang.specs.declared.party.Scalar.{Scalar}
use Rattle.sj_lang.specs.declared.party.Scalar.TheVariants.{Int, Boolean, Text}
use Rattle.sj_lang.specs.Place.{Place}
pub use Rattle.sj_lang.specs.SamePlace.{is_same_tree, is_same_place}

abbrev pub is_same_kind : Scalar → Scalar → Bool
is_same_kind Int Int = true
is_same_kind Boolean Boolean = true
is_same_kind Text Text = true
is_same_kind _ _ = false

abbrev pub is_same_list : List (ℕ × Place) → List (ℕ × Place) → Bool
is_same_list [] [] = true
is_same_list (x ∷ xs) (y ∷ ys) = (x.0 == y.0) && is_same_place x.1 y.1 && is_same_list xs ys
is_same_list _ _ = false

-- the same live ends at the same places
unfoldable pub is_same_ends : FinMap nat_cmp Place → FinMap nat_cmp Place → Bool
is_same_ends a b = is_same_list (map.entries a) (map.entries b)
