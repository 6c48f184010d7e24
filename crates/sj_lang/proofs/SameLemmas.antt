-- What the tests of sameness decide.
use Rattle.std.proofs.Common.{◌≡◌, ◌↔◌, ◌==◌, ◌&&◌, Bool, IsTrue, refl, ap, sym, ◌∙◌}
use Rattle.std.specs.Bool.{Decides}
use Rattle.std.proofs.lemmas.Bool.Decides.{Decides-eqb, Decides-and, Decides-like, same_from_decides}
use base.Stored.{Gv, gnil, gnum, gcons}
use Rattle.sj_lang.specs.declared.proto.Way.{Way}
use Rattle.sj_lang.specs.declared.proto.Way.TheVariants.{Out, Into}
use Rattle.sj_lang.specs.declared.proto.Kind.{Kind}
use Rattle.sj_lang.specs.Place.{Place, Carried}
use Rattle.sj_lang.specs.PlaceCode.{place_code, place_at, place_again, carried_code, carried_at, carried_again}
use Rattle.sj_lang.specs.View.{carried_of}
use Rattle.sj_lang.specs.After.{is_same_way}
use Rattle.sj_lang.specs.SamePlace.{is_same_tree, is_same_place, is_same_carried}
use Rattle.sj_lang.proofs.ViewLemmas.{carried_of_inj}

is_same_tree-Decides : (a b : Gv) → Decides (is_same_tree a b) (a ≡ b)
is_same_tree-Decides gnil gnil = (λ _. refl, λ _. refl)
is_same_tree-Decides gnil (gnum n) = (λ e. absurd (cc), λ e. absurd (cc))
is_same_tree-Decides gnil (gcons a b) = (λ e. absurd (cc), λ e. absurd (cc))
is_same_tree-Decides (gnum m) gnil = (λ e. absurd (cc), λ e. absurd (cc))
is_same_tree-Decides (gnum m) (gnum n) = Decides-like (m == n) (λ e i. gnum (e i)) (λ e. cc) (Decides-eqb m n)
is_same_tree-Decides (gnum m) (gcons a b) = (λ e. absurd (cc), λ e. absurd (cc))
is_same_tree-Decides (gcons a b) gnil = (λ e. absurd (cc), λ e. absurd (cc))
is_same_tree-Decides (gcons a b) (gnum n) = (λ e. absurd (cc), λ e. absurd (cc))
is_same_tree-Decides (gcons a b) (gcons c d) =
    Decides-like (is_same_tree a c && is_same_tree b d) (λ (p : (a ≡ c) × (b ≡ d)) i. gcons (p.0 i) (p.1 i)) (λ e. (cc, cc))
    (Decides-and (is_same_tree a c) (is_same_tree b d) (is_same_tree-Decides a c) (is_same_tree-Decides b d))

pub is_same_place-Decides : (p q : Place) → Decides (is_same_place p q) (p ≡ q)
unfolding is_same_place
is_same_place-Decides p q =
    Decides-like (is_same_tree (place_code p) (place_code q)) (λ e. sym (place_again p) ∙ ap place_at e ∙ place_again q) (λ e. ap place_code e)
    (is_same_tree-Decides (place_code p) (place_code q))

pub is_same_carried-Decides : (k l : Carried) → Decides (is_same_carried k l) (k ≡ l)
unfolding is_same_carried
is_same_carried-Decides k l =
    Decides-like (is_same_tree (carried_code k) (carried_code l)) (λ e. sym (carried_again k) ∙ ap carried_at e ∙ carried_again l) (λ e. ap carried_code e)
    (is_same_tree-Decides (carried_code k) (carried_code l))

pub is_same_way-Decides : (v w : Way) → Decides (is_same_way v w) (v ≡ w)
is_same_way-Decides Out Out = (λ _. refl, λ _. refl)
is_same_way-Decides Out Into = (λ e. absurd (cc), λ e. absurd (cc))
is_same_way-Decides Into Out = (λ e. absurd (cc), λ e. absurd (cc))
is_same_way-Decides Into Into = (λ _. refl, λ _. refl)

-- a test that holds exactly where two kinds are equal is the test of sameness
pub is_same_carried-from : (r : Bool) (k l : Kind) → (IsTrue r ↔ (k ≡ l)) → r ≡ is_same_carried (carried_of k) (carried_of l)
is_same_carried-from r k l h = same_from_decides r (is_same_carried (carried_of k) (carried_of l)) (λ t. ap carried_of (h.0 t), λ e. h.1 (carried_of_inj k l e)) (is_same_carried-Decides (carried_of k) (carried_of l))
