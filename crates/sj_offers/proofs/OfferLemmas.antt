-- Lists of offers, and what is put into them and taken out.
use Rattle.std.proofs.Common.{◌≡◌, ◌≢◌, ℕ, zero, suc, ◌+◌, ◌<◌, true, false, eqb, List, [], ◌∷◌, ◌++◌, length, get_or, slice_get, drop, Some, None, refl, ap, sym, ◌∙◌, subst, arith, inl, inr}
use Rattle.std.specs.Prelude.{Vec, min, vec_capacity, vec_len}
use Rattle.std.proofs.lemmas.Bool.{cases_eq, cases_lt}
use Rattle.std.proofs.lemmas.Bool.Decides.{nat_tests}
use Rattle.std.proofs.lemmas.Option.{slice_get-get_or, slice_get_past}
use Rattle.std.proofs.Math.ListN.{set}
use Rattle.std.specs.declared.alloc.Global.{Global}
use Rattle.sj_rules.specs.Opened.{smallest, smallest_from}
use Rattle.sj_offers.specs.Offers.{CanOffer, numbers_in, offering, offers_in, TakesMore}
use Rattle.sj_offers.proofs.SetLemmas.{set_here, set_there}

one_same : (n : ℕ) → eqb n n ≡ true
one_same n = grind (arith, nat_tests)

one_other : (n m : ℕ) → n ≢ m → eqb n m ≡ false
one_other n m ne = grind (arith, nat_tests)

-- the list of a party that has one
pub offers_here : (lists : List (Vec ℕ Global)) (q : ℕ) (d : Vec ℕ Global) → q < length lists → d ≡ get_or lists q d → offers_in lists q ≡ d.items
offers_here lists q d lt is = ap numbers_in (slice_get-get_or lists q d lt ∙ ap (λ x. Some x) (sym is))

-- one list is another from now on
pub offers_set : (lists : List (Vec ℕ Global)) (q : ℕ) (d more : Vec ℕ Global) (ns : List ℕ) → q < length lists → d ≡ get_or lists q d → more.items ≡ ns → offers_in (set lists q more) ≡ offering q ns (offers_in lists)
offers_set lists q d more ns lt is items =
    let at : (p : ℕ) → offers_in (set lists q more) p ≡ offering q ns (offers_in lists) p =
    λ p. elim (cases_eq p q) [
      | inl same ↦ rw (same, one_same q) (ap numbers_in (set_here lists q more lt) ∙ items)
      | inr other ↦ rw (one_other p q other) (ap numbers_in (set_there lists q p more other))
    ] in
    λ i p. at p i

-- one list has more room
pub offers_kept : (lists : List (Vec ℕ Global)) (q : ℕ) (d more : Vec ℕ Global) → q < length lists → d ≡ get_or lists q d → more.items ≡ d.items → offers_in (set lists q more) ≡ offers_in lists
offers_kept lists q d more lt is items =
    let at : (p : ℕ) → offers_in (set lists q more) p ≡ offers_in lists p =
    λ p. elim (cases_eq p q) [
      | inl same ↦ rw same (ap numbers_in (set_here lists q more lt) ∙ items ∙ sym (offers_here lists q d lt is))
      | inr other ↦ ap numbers_in (set_there lists q p more other)
    ] in
    λ i p. at p i

-- an empty list that is put after the others
pub offers_grown : (lists : List (Vec ℕ Global)) (d : Vec ℕ Global) → d.items ≡ [] → offers_in (lists ++ d ∷ []) ≡ offers_in lists
offers_grown lists d items = λ i p. go lists p i
  where
    go : (lists : List (Vec ℕ Global)) (p : ℕ) → offers_in (lists ++ d ∷ []) p ≡ offers_in lists p
    go [] zero = items
    go [] (suc p) = refl
    go (x ∷ xs) zero = refl
    go (x ∷ xs) (suc p) = go xs p

-- a list with room is there
pub list_there : (lists : List (Vec ℕ Global)) (q : ℕ) → CanOffer lists q → q < length lists
list_there lists q room =
    elim (cases_lt q (length lists)) [
      | inl lt ↦ lt
      | inr le ↦ let none : TakesMore (slice_get lists q) ≡ TakesMore None = ap TakesMore (slice_get_past lists q le) in absurd (subst (λ t. t) none room)
    ]

-- a party that offers something has a list
pub offering_there : (lists : List (Vec ℕ Global)) (q sess : ℕ) → smallest (offers_in lists q) ≡ Some sess → q < length lists
offering_there lists q sess least =
    elim (cases_lt q (length lists)) [
      | inl lt ↦ lt
      | inr le ↦ let none : offers_in lists q ≡ [] = ap numbers_in (slice_get_past lists q le) in absurd (cc (least, none))
    ]

-- ---- the smallest number

-- of the first two numbers and those after them
pub least_next : (a m : ℕ) (ms : List ℕ) → smallest_from (min a m) ms ≡ smallest_from a (m ∷ ms)
least_next a m [] = refl
least_next a m (x ∷ xs) = let rest = smallest_from x xs in omega arith

-- of the number so far and those from that place on
pub least_from : (least : ℕ) (ns : List ℕ) (k d : ℕ) → k < length ns → smallest_from (min least (get_or ns k d)) (drop (k + 1) ns) ≡ smallest_from least (drop k ns)
least_from least [] k d lt = absurd (omega arith)
least_from least (n ∷ ns) zero d lt = least_next least n ns
least_from least (n ∷ ns) (suc k) d lt =
    let next : suc k + 1 ≡ suc (k + 1) = omega arith in
    (λ i. smallest_from (min least (get_or ns k d)) (drop (next i) (n ∷ ns))) ∙ least_from least ns k d (omega arith)

-- there is room in that list
pub room_set : (lists : List (Vec ℕ Global)) (q : ℕ) (more : Vec ℕ Global) → q < length lists → vec_len more < vec_capacity more → CanOffer (set lists q more) q
room_set lists q more lt room = subst TakesMore (sym (set_here lists q more lt)) room
