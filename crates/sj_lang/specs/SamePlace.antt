-- Tests that compute whether two places are equal.
use Rattle.std.specs.Prelude.{Bool, true, false, ◌==◌, ◌&&◌}
use base.Stored.{Gv, gnil, gnum, gcons}
use Rattle.sj_lang.specs.Place.{Place, Carried}
use Rattle.sj_lang.specs.PlaceCode.{place_code, carried_code}

abbrev pub is_same_tree : Gv → Gv → Bool
is_same_tree gnil gnil = true
is_same_tree (gnum m) (gnum n) = m == n
is_same_tree (gcons a b) (gcons c d) = is_same_tree a c && is_same_tree b d
is_same_tree _ _ = false

unfoldable pub is_same_place : Place → Place → Bool
is_same_place p q = is_same_tree (place_code p) (place_code q)

unfoldable pub is_same_carried : Carried → Carried → Bool
is_same_carried k l = is_same_tree (carried_code k) (carried_code l)
