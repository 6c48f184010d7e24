-- Whether one place can stand for another, item by item.
use Rattle.std.proofs.Common.{◌≡◌, ◌+◌, ◌<◌, ℕ, ◌&&◌, Bool, true, false, List, ◌∷◌, length, get_or, drop, ap, sym, ◌∙◌}
use Rattle.std.proofs.lemmas.List.{at_drop_more}
use Rattle.sj_lang.specs.declared.proto.Item.{Item}
use Rattle.sj_lang.specs.Place.{Place, done}
use Rattle.sj_lang.specs.View.{followed, place_of}
use Rattle.sj_lang.specs.MeetTests.{meets, seen, stands_for}
use Rattle.sj_lang.proofs.MeetCodeLemmas.{pair_seen}

module _ (here next : Place) (items : List Item) (n : ℕ) (i j : Item) (lt : n < length items) (there : j ≡ get_or items n j) (is : here ≡ followed i next) where
  from_item : stands_for here (place_of (drop n items)) ≡ (meets (seen true (followed i done)) (followed j done) && stands_for next (place_of (drop (n + 1) items)))
  from_item =
      at_drop_more (λ (js : List Item). stands_for here (place_of js)) items n j lt
      ∙ ap (λ (k : Item). stands_for here (followed k (place_of (drop (n + 1) items)))) (sym there)
      ∙ ap (λ (p : Place). stands_for p (followed j (place_of (drop (n + 1) items)))) is
      ∙ pair_seen true i j next (place_of (drop (n + 1) items))

  module _ (met : Bool) (tested : met ≡ meets (seen true (followed i done)) (followed j done)) (all : Bool) (from : stands_for here (place_of (drop n items)) ≡ all) where
    split : all ≡ (met && stands_for next (place_of (drop (n + 1) items)))
    split = sym from ∙ from_item ∙ ap (λ (b : Bool). b && stands_for next (place_of (drop (n + 1) items))) (sym tested)

    -- what follows decides
    pub goes_on : met ≡ true → stands_for next (place_of (drop (n + 1) items)) ≡ all
    goes_on e = sym (split ∙ ap (λ (b : Bool). b && stands_for next (place_of (drop (n + 1) items))) e)

    pub rows : met ≡ false → false ≡ all
    rows e = sym (split ∙ ap (λ (b : Bool). b && stands_for next (place_of (drop (n + 1) items))) e)
