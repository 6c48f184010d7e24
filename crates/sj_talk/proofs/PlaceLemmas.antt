-- Empty places, and ends that stand for places.
use Rattle.std.proofs.Common.{◌≡◌, ℕ, suc, ◌==◌, Bool, true, false, List, [], ◌∷◌, length, refl, sym, ◌∙◌, arith, ◌↔◌, IsTrue}
use Rattle.std.proofs.lemmas.Bool.{false_from_ne_true, ne_eqb}
use Rattle.sj_lang.specs.declared.proto.Item.{Item}
use Rattle.sj_lang.specs.declared.proto.Item.TheVariants.{Send, Recv, Select, Branch, OutLoop, InLoop}
use Rattle.sj_lang.specs.Meet.{StandsFor}
use Rattle.sj_lang.specs.MeetTests.{stands_for}
use Rattle.sj_lang.specs.Place.{Place}
use Rattle.sj_lang.specs.View.{followed, place_of}
use Rattle.sj_lang.proofs.MeetTestLemmas.{meets-Decides}
use Rattle.sj_talk.specs.Rules.{is_done}

not_done : (i : Item) (p : Place) → false ≡ is_done (followed i p)
not_done (Send k) p = refl
not_done (Recv k) p = refl
not_done (Select arms) p = refl
not_done (Branch arms) p = refl
not_done (OutLoop body) p = refl
not_done (InLoop body) p = refl

some_there : (n : ℕ) → (suc n == 0) ≡ false
some_there n = ne_eqb (suc n) 0 (λ e. absurd (omega (arith, e)))

-- the place is empty where there is no item
pub empty_is : (xs : List Item) → (length xs == 0) ≡ is_done (place_of xs)
empty_is [] = refl
empty_is (i ∷ is) = some_there (length is) ∙ not_done i (place_of is)

-- what the test says where it agrees with the definition
pub told_by : (r : Bool) (p q : Place) → IsTrue r ↔ StandsFor p q → r ≡ stands_for p q
told_by true p q h = sym ((meets-Decides _ _).1 (h.0 refl))
told_by false p q h = sym (false_from_ne_true (stands_for p q) (λ t. let wrong : false ≡ true = h.1 ((meets-Decides _ _).0 t) in cc))
