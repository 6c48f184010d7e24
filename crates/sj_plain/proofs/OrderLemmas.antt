-- Sessions that are opened and accepted, in a list in order of their numbers.
use Rattle.std.proofs.Common.{◌≡◌, ℕ, zero, suc, ◌+◌, ◌<◌, ◌≤◌, Bool, cond, List, [], ◌∷◌, ◌++◌, length, take, drop, get_or, refl, ap, sym, ◌∙◌, append_assoc, arith, inl, inr}
use Rattle.std.proofs.Math.ListN.{set}
use Rattle.std.proofs.lemmas.Bool.{cases_eq, cases_lt, eq-eqb, ne_eqb}
use Rattle.sj_semantics.specs.declared.Opened.{Opened}
use Rattle.sj_semantics.specs.Requests.{Request, Requests, Opening, accepted_as, accepts, after_opening, opened_by, opened_from, opened_number, requests, requests_after}
use Rattle.sj_semantics.specs.Uses.{altered_list}
use Rattle.sj_plain.specs.Opened.{IsInOrder, accepted_session, before_in, request_of, requests_in}
use Rattle.sj_plain.proofs.OpenedLemmas.{before_first, before_later, length-opened_by, requests_past, requests_within, same_opened, session_by}

-- ---- lists

-- the list with x put at that index
abbrev pub put_in : {X : Type 0} → ℕ → X → List X → List X
put_in at x xs = take at xs ++ x ∷ drop at xs

put_behind : {X : Type 0} (x : X) (xs ys : List X) (m at : ℕ) → at ≡ length xs + m → put_in at x (xs ++ ys) ≡ xs ++ put_in m x ys
put_behind x [] ys m at e = ap (λ t. put_in t x ys) (let it : at ≡ m = omega (arith, e) in it)
put_behind x (a ∷ xs) ys m zero e = absurd (omega (arith, e))
put_behind x (a ∷ xs) ys m (suc at) e = ap (λ t. a ∷ t) (put_behind x xs ys m at (omega (arith, e)))

put_at_front : {X : Type 0} (x : X) (ys : List X) → put_in 0 x ys ≡ x ∷ ys
put_at_front x [] = refl
put_at_front x (y ∷ ys) = refl

altered_behind : {X : Type 0} (f : X → X) (xs ys : List X) (m at : ℕ) → at ≡ length xs + m → altered_list (xs ++ ys) at f ≡ xs ++ altered_list ys m f
altered_behind f [] ys m at e = ap (λ t. altered_list ys t f) (let it : at ≡ m = omega (arith, e) in it)
altered_behind f (a ∷ xs) ys m zero e = absurd (omega (arith, e))
altered_behind f (a ∷ xs) ys m (suc at) e = ap (λ t. a ∷ t) (altered_behind f xs ys m at (omega (arith, e)))

altered_within : {X : Type 0} (f : X → X) (xs ys : List X) (at : ℕ) → at < length xs → altered_list (xs ++ ys) at f ≡ altered_list xs at f ++ ys
altered_within f [] ys at lt = absurd (omega (arith, lt))
altered_within f (a ∷ xs) ys zero lt = refl
altered_within f (a ∷ xs) ys (suc at) lt = ap (λ t. a ∷ t) (altered_within f xs ys at (omega (arith, lt)))

pub get_behind : {X : Type 0} (d : X) (xs ys : List X) (m at : ℕ) → at ≡ length xs + m → get_or (xs ++ ys) at d ≡ get_or ys m d
get_behind d [] ys m at e = ap (λ t. get_or ys t d) (let it : at ≡ m = omega (arith, e) in it)
get_behind d (a ∷ xs) ys m zero e = absurd (omega (arith, e))
get_behind d (a ∷ xs) ys m (suc at) e = get_behind d xs ys m at (omega (arith, e))

pub get_within : {X : Type 0} (d : X) (xs ys : List X) (at : ℕ) → at < length xs → get_or (xs ++ ys) at d ≡ get_or xs at d
get_within d [] ys at lt = absurd (omega (arith, lt))
get_within d (a ∷ xs) ys zero lt = refl
get_within d (a ∷ xs) ys (suc at) lt = get_within d xs ys at (omega (arith, lt))

set_is_altered : {X : Type 0} (xs : List X) (i : ℕ) (x y : X) (f : X → X) → i < length xs → x ≡ get_or xs i x → y ≡ f x → set xs i y ≡ altered_list xs i f
set_is_altered [] i x y f lt there new = absurd (omega (arith, lt))
set_is_altered (a ∷ xs) zero x y f lt there new = ap (λ t. t ∷ xs) (new ∙ ap f there)
set_is_altered (a ∷ xs) (suc i) x y f lt there new = ap (λ t. a ∷ t) (set_is_altered xs i x y f (omega (arith, lt)) there new)

-- ---- one party's

one_more : (p k : ℕ) (rs : List Request) (r : Request) → opened_by p k (rs ++ r ∷ []) ≡ opened_by p k rs ++ session_by p (k + length rs) r ∷ []
one_more p k [] r = ap (λ t. session_by p t r ∷ []) (let it : k ≡ k + 0 = omega arith in it)
one_more p k (a ∷ rs) r = ap (λ t. session_by p k a ∷ t) (one_more p (k + 1) rs r ∙ ap (λ t. opened_by p (k + 1) rs ++ session_by p t r ∷ []) (let it : k + 1 + length rs ≡ k + length (a ∷ rs) = omega arith in it))

one_accepted : (p k i y : ℕ) (rs : List Request) → opened_by p k (altered_list rs i (accepted_as y)) ≡ altered_list (opened_by p k rs) i (accepted_session y)
one_accepted p k i y [] = refl
one_accepted p k zero y (r ∷ rs) = refl
one_accepted p k (suc i) y (r ∷ rs) = ap (λ t. session_by p k r ∷ t) (one_accepted p (k + 1) i y rs)

number_by : (d : Opened) (p k i : ℕ) (rs : List Request) → i < length rs → (get_or (opened_by p k rs) i d).sess ≡ opened_number p (k + i)
number_by d p k i [] lt = absurd (omega (arith, lt))
number_by d p k zero (r ∷ rs) lt = omega arith
number_by d p k (suc i) (r ∷ rs) lt = number_by d p (k + 1) i rs (omega (arith, lt)) ∙ ap (opened_number p) (let it : k + 1 + i ≡ k + suc i = omega arith in it)

-- ---- of all

after_at : (o : Opening) (x : ℕ) (all : Requests) (q : ℕ) (rs : List Request) → requests_after x o q (all q) ≡ rs → opened_by q 0 (after_opening x o all q) ≡ opened_by q 0 rs
after_at o x all q rs h = ap (opened_by q 0) h

-- where one more session is put
pub put_in_order : (all : Requests) (r : Request) (p n q at : ℕ) → q ≤ p → p < q + n → at ≡ before_in (opened_from all n q) p + length (all p)
    → put_in at (session_by p (length (all p)) r) (opened_from all n q) ≡ opened_from (after_opening p (requests r) all) n q
put_in_order all r p zero q at le lt is = absurd (omega (arith, le, lt))
put_in_order all r p (suc n) q at le lt is =
    let one = opened_by q 0 (all q) in
    let rest = opened_from all n (q + 1) in
    elim (cases_eq q p) [
      | inl same ↦
          put_behind (session_by p (length (all p)) r) one rest 0 at (omega (arith, is, ap (before_in (opened_from all (suc n) q)) same, before_first all n q, length-opened_by q 0 (all q), ap (λ t. length (all t)) same))
          ∙ ap (λ t. one ++ t) (put_at_front (session_by p (length (all p)) r) rest)
          ∙ sym (append_assoc one (session_by p (length (all p)) r ∷ []) rest)
          ∙ ap (λ t. (one ++ t ∷ []) ++ rest) (ap (λ t. session_by t (length (all t)) r) (sym same) ∙ ap (λ t. session_by q t r) (let it : length (all q) ≡ 0 + length (all q) = omega arith in it))
          ∙ ap (λ t. t ++ rest) (sym (one_more q 0 (all q) r) ∙ sym (after_at (requests r) p all q (all q ++ r ∷ []) (ap (λ (t : Bool). cond t (all q ++ r ∷ []) (all q)) (eq-eqb q p same))))
          ∙ ap (λ t. opened_by q 0 (after_opening p (requests r) all q) ++ t) (same_opened all (after_opening p (requests r) all) n (q + 1) (λ x above. sym (ap (λ (t : Bool). cond t (all x ++ r ∷ []) (all x)) (ne_eqb x p (λ e. absurd (omega (arith, e, same, above)))))))
      | inr other ↦
          let more : q < p = omega (arith, le, λ (e : q ≡ p). other e) in
          put_behind (session_by p (length (all p)) r) one rest (before_in rest p + length (all p)) at (omega (arith, is, before_later all n q p more, length-opened_by q 0 (all q)))
          ∙ ap (λ t. one ++ t) (put_in_order all r p n (q + 1) (before_in rest p + length (all p)) (omega (arith, more)) (omega (arith, lt)) refl)
          ∙ ap (λ t. t ++ opened_from (after_opening p (requests r) all) n (q + 1)) (sym (after_at (requests r) p all q (all q) (ap (λ (t : Bool). cond t (all q ++ r ∷ []) (all q)) (ne_eqb q p other))))
    ]

-- where a session is accepted
pub accepted_in_order : (all : Requests) (p x k y n q at : ℕ) → q ≤ p → p < q + n → k < length (all p) → at ≡ before_in (opened_from all n q) p + k
    → altered_list (opened_from all n q) at (accepted_session y) ≡ opened_from (after_opening x (accepts p k y) all) n q
accepted_in_order all p x k y zero q at le lt there is = absurd (omega (arith, le, lt))
accepted_in_order all p x k y (suc n) q at le lt there is =
    let one = opened_by q 0 (all q) in
    let rest = opened_from all n (q + 1) in
    elim (cases_eq q p) [
      | inl same ↦
          let here : at ≡ k = omega (arith, is, ap (before_in (opened_from all (suc n) q)) same, before_first all n q) in
          ap (λ t. altered_list (one ++ rest) t (accepted_session y)) here
          ∙ altered_within (accepted_session y) one rest k (omega (arith, there, ap (λ t. length (all t)) same, length-opened_by q 0 (all q)))
          ∙ ap (λ t. t ++ rest) (sym (one_accepted q 0 k y (all q)) ∙ sym (after_at (accepts p k y) x all q (altered_list (all q) k (accepted_as y)) (ap (λ (t : Bool). cond t (altered_list (all q) k (accepted_as y)) (all q)) (eq-eqb q p same))))
          ∙ ap (λ t. opened_by q 0 (after_opening x (accepts p k y) all q) ++ t) (same_opened all (after_opening x (accepts p k y) all) n (q + 1) (λ z above. sym (ap (λ (t : Bool). cond t (altered_list (all z) k (accepted_as y)) (all z)) (ne_eqb z p (λ e. absurd (omega (arith, e, same, above)))))))
      | inr other ↦
          let more : q < p = omega (arith, le, λ (e : q ≡ p). other e) in
          altered_behind (accepted_session y) one rest (before_in rest p + k) at (omega (arith, is, before_later all n q p more, length-opened_by q 0 (all q)))
          ∙ ap (λ t. one ++ t) (accepted_in_order all p x k y n (q + 1) (before_in rest p + k) (omega (arith, more)) (omega (arith, lt)) there refl)
          ∙ ap (λ t. t ++ opened_from (after_opening x (accepts p k y) all) n (q + 1)) (sym (after_at (accepts p k y) x all q (all q) (ap (λ (t : Bool). cond t (altered_list (all q) k (accepted_as y)) (all q)) (ne_eqb q p other))))
    ]

-- a session's number is that of its place among its party's
pub number_in_order : (d : Opened) (all : Requests) (p k n q at : ℕ) → q ≤ p → p < q + n → k < length (all p) → at ≡ before_in (opened_from all n q) p + k → (get_or (opened_from all n q) at d).sess ≡ opened_number p k
number_in_order d all p k zero q at le lt there is = absurd (omega (arith, le, lt))
number_in_order d all p k (suc n) q at le lt there is =
    let one = opened_by q 0 (all q) in
    let rest = opened_from all n (q + 1) in
    elim (cases_eq q p) [
      | inl same ↦
          let here : at ≡ k = omega (arith, is, ap (before_in (opened_from all (suc n) q)) same, before_first all n q) in
          ap (λ t. (get_or (one ++ rest) t d).sess) here
          ∙ ap (λ (t : Opened). t.sess) (get_within d one rest k (omega (arith, there, ap (λ t. length (all t)) same, length-opened_by q 0 (all q))))
          ∙ number_by d q 0 k (all q) (omega (arith, there, ap (λ t. length (all t)) same))
          ∙ ap (λ t. opened_number t (0 + k)) same
          ∙ ap (opened_number p) (let it : 0 + k ≡ k = omega arith in it)
      | inr other ↦
          let more : q < p = omega (arith, le, λ (e : q ≡ p). other e) in
          ap (λ (t : Opened). t.sess) (get_behind d one rest (before_in rest p + k) at (omega (arith, is, before_later all n q p more, length-opened_by q 0 (all q))))
          ∙ number_in_order d all p k n (q + 1) (before_in rest p + k) (omega (arith, more)) (omega (arith, lt)) there refl
    ]

-- ---- lists in order

-- what each party requested is what the order says
pub requests_told : (new : List Opened) (all : Requests) (n : ℕ) → new ≡ opened_from all n 0 → ((x : ℕ) → n ≤ x → all x ≡ []) → (x : ℕ) → requests_in new x ≡ all x
requests_told new all n is none x =
    ap (λ t. requests_in t x) is
    ∙ elim (cases_lt x n) [
      | inl lt ↦ requests_within all n 0 x (omega arith) (omega (arith, lt))
      | inr le ↦ requests_past all n 0 x (omega (arith, le)) ∙ sym (none x le)
    ]

pub still_in_order : (new : List Opened) (all : Requests) (n : ℕ) → new ≡ opened_from all n 0 → ((x : ℕ) → requests_in new x ≡ all x) → IsInOrder n new
still_in_order new all n is told = is ∙ same_opened all (requests_in new) n 0 (λ x le. sym (told x))

-- who may have opened some has a number below
pub none_above : (os : List Opened) (n x : ℕ) → IsInOrder n os → n ≤ x → requests_in os x ≡ []
none_above os n x order le = ap (λ t. requests_in t x) order ∙ requests_past (requests_in os) n 0 x (omega (arith, le))

pub opener_below : (os : List Opened) (n x k : ℕ) → IsInOrder n os → k < length (requests_in os x) → x < n
opener_below os n x k order lt =
    elim (cases_lt x n) [
      | inl below ↦ below
      | inr above ↦ absurd (omega (arith, lt, ap length (none_above os n x order above)))
    ]

-- ---- one session more, and one accepted

-- the session lies where it is put, and each party has requested what the request makes of that
pub added_in_order : (old new : List Opened) (o : Opened) (n : ℕ) → o.from < n → IsInOrder n old → o.sess ≡ opened_number o.from (length (requests_in old o.from))
    → new ≡ put_in (before_in old o.from + length (requests_in old o.from)) o old → new ≡ opened_from (after_opening o.from (requests (request_of o)) (requests_in old)) n 0
added_in_order old new o n below order number is =
    let at = before_in old o.from + length (requests_in old o.from) in
    is
    ∙ ap (λ t. put_in at t old) (λ i. record { sess = number i; from = o.from; first = o.first; to = o.to; second = o.second })
    ∙ ap (put_in at (session_by o.from (length (requests_in old o.from)) (request_of o))) order
    ∙ put_in_order (requests_in old) (request_of o) o.from n 0 at (omega arith) (omega (arith, below)) (ap (λ t. before_in t o.from + length (requests_in old o.from)) order)

pub added_requests : (old new : List Opened) (o : Opened) (n : ℕ) → o.from < n → IsInOrder n old → new ≡ opened_from (after_opening o.from (requests (request_of o)) (requests_in old)) n 0
    → (x : ℕ) → requests_in new x ≡ after_opening o.from (requests (request_of o)) (requests_in old) x
added_requests old new o n below order is =
    requests_told new (after_opening o.from (requests (request_of o)) (requests_in old)) n is
    (λ x le. ap (λ (t : Bool). cond t (requests_in old x ++ request_of o ∷ []) (requests_in old x)) (ne_eqb x o.from (λ e. absurd (omega (arith, e, le, below)))) ∙ none_above old n x order le)

pub accepted_order : (old new : List Opened) (p x k y n : ℕ) → k < length (requests_in old p) → IsInOrder n old → new ≡ altered_list old (before_in old p + k) (accepted_session y)
    → new ≡ opened_from (after_opening x (accepts p k y) (requests_in old)) n 0
accepted_order old new p x k y n there order is =
    is
    ∙ ap (λ t. altered_list t (before_in old p + k) (accepted_session y)) order
    ∙ accepted_in_order (requests_in old) p x k y n 0 (before_in old p + k) (omega arith) (omega (arith, opener_below old n p k order there)) there (ap (λ t. before_in t p + k) order)

pub accepted_requests : (old new : List Opened) (p x k y n : ℕ) → k < length (requests_in old p) → IsInOrder n old → new ≡ opened_from (after_opening x (accepts p k y) (requests_in old)) n 0
    → (z : ℕ) → requests_in new z ≡ after_opening x (accepts p k y) (requests_in old) z
accepted_requests old new p x k y n there order is =
    requests_told new (after_opening x (accepts p k y) (requests_in old)) n is
    (λ z le. ap (λ (t : Bool). cond t (altered_list (requests_in old z) k (accepted_as y)) (requests_in old z)) (ne_eqb z p (λ e. absurd (omega (arith, e, le, opener_below old n p k order there)))) ∙ none_above old n z order le)

-- the session that is there is changed
pub set_session : (os : List Opened) (at y : ℕ) (o new : Opened) → at < length os → o ≡ get_or os at o → new ≡ accepted_session y o → set os at new ≡ altered_list os at (accepted_session y)
set_session os at y o new lt there is = set_is_altered os at o new (accepted_session y) lt there is

-- its number
pub number_there : (os : List Opened) (p k n : ℕ) (d : Opened) → k < length (requests_in os p) → IsInOrder n os → (get_or os (before_in os p + k) d).sess ≡ opened_number p k
number_there os p k n d there order =
    ap (λ (t : List Opened). (get_or t (before_in os p + k) d).sess) order
    ∙ number_in_order d (requests_in os) p k n 0 (before_in os p + k) (omega arith) (omega (arith, opener_below os n p k order there)) there (ap (λ t. before_in t p + k) order)

-- ---- none are opened yet

nobody_opened : (n q : ℕ) → opened_from (requests_in []) n q ≡ []
nobody_opened zero q = refl
nobody_opened (suc n) q = nobody_opened n (q + 1)

pub none_in_order : (os : List Opened) (n : ℕ) → os ≡ [] → IsInOrder n os
none_in_order os n none = none ∙ sym (nobody_opened n 0) ∙ ap (λ t. opened_from (requests_in t) n 0) (sym none)
