-- Where a party's sessions lie in a list in order.
use Rattle.std.proofs.Common.{◌≡◌, ℕ, zero, suc, ◌+◌, ◌-◌, ◌<◌, ◌≤◌, List, [], ◌∷◌, ◌++◌, length, take, drop, get_or, refl, ap, sym, ◌∙◌, append-nil, length-append, arith, inl, inr}
use Rattle.std.proofs.lemmas.Bool.{cases_lt}
use Rattle.std.proofs.lemmas.List.{take-append-drop}
use Rattle.sj_semantics.specs.declared.Opened.{Opened}
use Rattle.sj_semantics.specs.Requests.{Request, Requests, opened_by, opened_from}
use Rattle.sj_plain.specs.Opened.{IsInOrder, before_in, requests_in}
use Rattle.sj_plain.proofs.OpenedLemmas.{before_fits, before_later, before_next, length-opened_by, no_requests_of_others, none_before, requests-append, requests_below}
use Rattle.sj_plain.proofs.OrderLemmas.{get_behind, get_within}

-- ---- an element shows on which side it lies

opener_by : (d : Opened) (q k i : ℕ) (rs : List Request) → i < length rs → (get_or (opened_by q k rs) i d).from ≡ q
opener_by d q k i [] lt = absurd (omega (arith, lt))
opener_by d q k zero (r ∷ rs) lt = refl
opener_by d q k (suc i) (r ∷ rs) lt = opener_by d q (k + 1) i rs (omega (arith, lt))

low_from : (d : Opened) (all : Requests) (n q p i : ℕ) → i < length (opened_from all n q) → (get_or (opened_from all n q) i d).from < p → i < before_in (opened_from all n q) p
low_from d all zero q p i lt low = absurd (omega (arith, lt))
low_from d all (suc n) q p i lt low =
    let one = opened_by q 0 (all q) in
    let rest = opened_from all n (q + 1) in
    let size = length-opened_by q 0 (all q) in
    elim (cases_lt i (length one)) [
      | inl here ↦
          let mine = ap (λ (t : Opened). t.from) (get_within d one rest i here) ∙ opener_by d q 0 i (all q) (omega (arith, here, size)) in
          omega (arith, here, size, before_later all n q p (omega (arith, low, mine)))
      | inr past ↦
          let at : i ≡ length one + (i - length one) = omega (arith, past) in
          let on = low_from d all n (q + 1) p (i - length one) (omega (arith, lt, past, length-append one rest)) (omega (arith, low, ap (λ (t : Opened). t.from) (get_behind d one rest (i - length one) i at))) in
          elim (cases_lt q p) [
            | inl more ↦ omega (arith, on, past, size, before_later all n q p more)
            | inr less ↦ absurd (omega (arith, on, none_before all n (q + 1) p (omega (arith, less))))
          ]
    ]

high_from : (d : Opened) (all : Requests) (n q p i : ℕ) → i < length (opened_from all n q) → p ≤ (get_or (opened_from all n q) i d).from → before_in (opened_from all n q) p ≤ i
high_from d all zero q p i lt high = absurd (omega (arith, lt))
high_from d all (suc n) q p i lt high =
    let one = opened_by q 0 (all q) in
    let rest = opened_from all n (q + 1) in
    let size = length-opened_by q 0 (all q) in
    elim (cases_lt q p) [
      | inr less ↦ omega (arith, none_before all (suc n) q p less)
      | inl more ↦
          elim (cases_lt i (length one)) [
            | inl here ↦
                let mine = ap (λ (t : Opened). t.from) (get_within d one rest i here) ∙ opener_by d q 0 i (all q) (omega (arith, here, size)) in
                absurd (omega (arith, high, mine, more))
            | inr past ↦
                let at : i ≡ length one + (i - length one) = omega (arith, past) in
                let on = high_from d all n (q + 1) p (i - length one) (omega (arith, lt, past, length-append one rest)) (omega (arith, high, ap (λ (t : Opened). t.from) (get_behind d one rest (i - length one) i at))) in
                omega (arith, on, past, size, before_later all n q p more)
          ]
    ]

pub low_is_before : (os : List Opened) (n p i : ℕ) (d : Opened) → IsInOrder n os → i < length os → (get_or os i d).from < p → i < before_in os p
low_is_before os n p i d order lt low =
    let len = ap length order in
    let got = ap (λ (t : List Opened). (get_or t i d).from) order in
    omega (arith, ap (λ t. before_in t p) order, low_from d (requests_in os) n 0 p i (omega (arith, lt, len)) (omega (arith, low, got)))

pub high_is_past : (os : List Opened) (n p i : ℕ) (d : Opened) → IsInOrder n os → i < length os → p ≤ (get_or os i d).from → before_in os p ≤ i
high_is_past os n p i d order lt high =
    let len = ap length order in
    let got = ap (λ (t : List Opened). (get_or t i d).from) order in
    omega (arith, ap (λ t. before_in t p) order, high_from d (requests_in os) n 0 p i (omega (arith, lt, len)) (omega (arith, high, got)))

-- ---- a party's sessions lie together

take_behind : {X : Type 0} (xs ys : List X) (m at : ℕ) → at ≡ length xs + m → take at (xs ++ ys) ≡ xs ++ take m ys
take_behind [] ys m at e = ap (λ t. take t ys) (let it : at ≡ m = omega (arith, e) in it)
take_behind (x ∷ xs) ys m zero e = absurd (omega (arith, e))
take_behind (x ∷ xs) ys m (suc at) e = ap (λ t. x ∷ t) (take_behind xs ys m at (omega (arith, e)))

drop_behind : {X : Type 0} (xs ys : List X) (m at : ℕ) → at ≡ length xs + m → drop at (xs ++ ys) ≡ drop m ys
drop_behind [] ys m at e = ap (λ t. drop t ys) (let it : at ≡ m = omega (arith, e) in it)
drop_behind (x ∷ xs) ys m zero e = absurd (omega (arith, e))
drop_behind (x ∷ xs) ys m (suc at) e = drop_behind xs ys m at (omega (arith, e))

take_none : {X : Type 0} (xs : List X) (k : ℕ) → k ≡ 0 → take k xs ≡ []
take_none [] zero e = refl
take_none (x ∷ xs) zero e = refl
take_none xs (suc k) e = absurd (omega (arith, e))

drop_none : {X : Type 0} (xs : List X) (k : ℕ) → k ≡ 0 → drop k xs ≡ xs
drop_none [] zero e = refl
drop_none (x ∷ xs) zero e = refl
drop_none xs (suc k) e = absurd (omega (arith, e))

none_in_front : (all : Requests) (n q p : ℕ) → requests_in (take (before_in (opened_from all n q) p) (opened_from all n q)) p ≡ []
none_in_front all zero q p = ap (λ (t : List Opened). requests_in t p) (take_none [] (before_in [] p) refl)
none_in_front all (suc n) q p =
    let one = opened_by q 0 (all q) in
    let rest = opened_from all n (q + 1) in
    elim (cases_lt q p) [
      | inr less ↦ ap (λ (t : List Opened). requests_in t p) (take_none (one ++ rest) (before_in (one ++ rest) p) (none_before all (suc n) q p less))
      | inl more ↦
          ap (λ (t : List Opened). requests_in t p) (take_behind one rest (before_in rest p) (before_in (one ++ rest) p) (omega (arith, before_later all n q p more, length-opened_by q 0 (all q))))
          ∙ requests-append one (take (before_in rest p) rest) p
          ∙ ap (λ t. t ++ requests_in (take (before_in rest p) rest) p) (no_requests_of_others q 0 p (all q) (λ e. absurd (omega (arith, more, e))))
          ∙ none_in_front all n (q + 1) p
    ]

none_past : (all : Requests) (n q p : ℕ) → requests_in (drop (before_in (opened_from all n q) (p + 1)) (opened_from all n q)) p ≡ []
none_past all zero q p = ap (λ (t : List Opened). requests_in t p) (drop_none [] (before_in [] (p + 1)) refl)
none_past all (suc n) q p =
    let one = opened_by q 0 (all q) in
    let rest = opened_from all n (q + 1) in
    elim (cases_lt q (p + 1)) [
      | inr less ↦ ap (λ (t : List Opened). requests_in t p) (drop_none (one ++ rest) (before_in (one ++ rest) (p + 1)) (none_before all (suc n) q (p + 1) less)) ∙ requests_below all (suc n) q p (omega (arith, less))
      | inl more ↦
          ap (λ (t : List Opened). requests_in t p) (drop_behind one rest (before_in rest (p + 1)) (before_in (one ++ rest) (p + 1)) (omega (arith, before_later all n q (p + 1) more, length-opened_by q 0 (all q))))
          ∙ none_past all n (q + 1) p
    ]

drop_further : {X : Type 0} (xs : List X) (i j k : ℕ) → k ≡ i + j → drop j (drop i xs) ≡ drop k xs
drop_further xs zero j k e = ap (drop j) (drop_none xs 0 refl) ∙ ap (λ t. drop t xs) (let it : j ≡ k = omega (arith, e) in it)
drop_further xs (suc i) j zero e = absurd (omega (arith, e))
drop_further [] (suc i) zero (suc k) e = refl
drop_further [] (suc i) (suc j) (suc k) e = refl
drop_further (x ∷ xs) (suc i) j (suc k) e = drop_further xs i j k (omega (arith, e))

-- between the number of those before the party and that of those before the next one lie its own
pub own_lie_there : (os : List Opened) (n p : ℕ) → IsInOrder n os → requests_in (take (before_in os (p + 1) - before_in os p) (drop (before_in os p) os)) p ≡ requests_in os p
own_lie_there os n p order =
    let low = before_in os p in
    let more = before_in os (p + 1) - low in
    let front : requests_in (take low os) p ≡ [] = ap (λ (t : List Opened). requests_in (take (before_in t p) t) p) order ∙ none_in_front (requests_in os) n 0 p in
    let last : requests_in (drop (before_in os (p + 1)) os) p ≡ [] = ap (λ (t : List Opened). requests_in (drop (before_in t (p + 1)) t) p) order ∙ none_past (requests_in os) n 0 p in
    sym (
    ap (λ (t : List Opened). requests_in t p) (sym (take-append-drop low os))
    ∙ requests-append (take low os) (drop low os) p
    ∙ ap (λ t. t ++ requests_in (drop low os) p) front
    ∙ ap (λ (t : List Opened). requests_in t p) (sym (take-append-drop more (drop low os)))
    ∙ requests-append (take more (drop low os)) (drop more (drop low os)) p
    ∙ ap (λ t. requests_in (take more (drop low os)) p ++ t) (ap (λ (t : List Opened). requests_in t p) (drop_further os low more (before_in os (p + 1)) (omega (arith, before_next os p))) ∙ last)
    ∙ append-nil (requests_in (take more (drop low os)) p))

-- so many are before at most, and none fewer than for a lower number
pub before_rises : (os : List Opened) (p low high : ℕ) → low ≡ before_in os p → high ≡ before_in os (p + 1) → (low ≤ high) × (high ≤ length os)
before_rises os p low high one other = (omega (arith, one, other, before_next os p), omega (arith, other, before_fits os (p + 1)))
