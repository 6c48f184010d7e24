-- Arms of choices by their numbers.
use Rattle.std.proofs.Common.{◌≡◌, ℕ, zero, suc, ◌+◌, ◌<◌, List, [], ◌∷◌, length, get_or, drop, Some, refl, ap, sym, ◌∙◌, arith}
use Rattle.std.proofs.lemmas.List.{at_drop_more}
use Rattle.std.proofs.lemmas.Grind.{common_steps}
use Rattle.sj_lang.specs.declared.proto.Arm.{Arm}
use Rattle.sj_lang.specs.After.{arm_count, arm_rest, at_label}
use Rattle.sj_lang.specs.View.{choices_of}
use Rattle.sj_lang.proofs.PlaceLemmas.{place_of-append, followed_by-done}

pub arm_count-choices_of : (arms : List Arm) → arm_count (choices_of arms) ≡ length arms
arm_count-choices_of [] = refl
arm_count-choices_of (a ∷ arms) = omega (arith, arm_count-choices_of arms)

pub arm_rest-choices_of : (arms : List Arm) (k : ℕ) (d : Arm) → k < length arms → arm_rest k (choices_of arms) ≡ (get_or arms k d).rest
arm_rest-choices_of [] k d h = absurd (omega arith)
arm_rest-choices_of (a ∷ arms) zero d h = refl
arm_rest-choices_of (a ∷ arms) (suc k) d h = arm_rest-choices_of arms k d (omega arith)

picked : (l : ℕ) (a : Arm) (arms : List Arm) → a.label ≡ l → at_label l (choices_of (a ∷ arms)) ≡ Some a.rest
picked l a arms e = grind (arith, common_steps)

-- the first arm of that label, where none before it has the label
pub at_label-first : (l : ℕ) (arms : List Arm) (i : ℕ) (d : Arm) → i < length arms → at_label l (choices_of (drop i arms)) ≡ at_label l (choices_of arms)
    → (get_or arms i d).label ≡ l → at_label l (choices_of arms) ≡ Some (arm_rest i (choices_of arms))
at_label-first l arms i d h e f =
    sym e ∙ at_drop_more (λ as'. at_label l (choices_of as')) arms i d h ∙ picked l (get_or arms i d) (drop (i + 1) arms) f
    ∙ ap (λ p. Some p) (sym (arm_rest-choices_of arms i d h))

pub ruleset arms = (arm_count-choices_of, arm_rest-choices_of, place_of-append, followed_by-done)
