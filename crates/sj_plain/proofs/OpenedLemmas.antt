-- The sessions that each party opened, as they lie in a list.
use Rattle.std.proofs.Common.{◌≡◌, ◌≢◌, ℕ, zero, suc, ◌+◌, ◌<◌, ◌≤◌, ◌==◌, nat_lt, Bool, true, false, cond, List, [], ◌∷◌, ◌++◌, length, refl, ap, sym, ◌∙◌, append-nil, arith, inl, inr}
use Rattle.std.proofs.lemmas.Bool.{cases_Bool, cases_eq, cases_lt, eq-eqb, ne_eqb, le-ltb, lt-ltb}
use Rattle.sj_semantics.specs.declared.Opened.{Opened}
use Rattle.sj_semantics.specs.Requests.{Request, Requests, opened_by, opened_from, opened_number}
use Rattle.sj_plain.specs.Opened.{before_in, request_of, requests_in}

-- the session that party p opened after k others
abbrev pub session_by : ℕ → ℕ → Request → Opened
session_by p k r = record { sess = opened_number p k; from = p; first = r.first; to = r.to; second = r.second }

-- ---- of one party

requests_hit : (o : Opened) (os : List Opened) (p : ℕ) (b : Bool) → o.from == p ≡ b → requests_in (o ∷ os) p ≡ cond b (request_of o ∷ requests_in os p) (requests_in os p)
requests_hit o os p b h = ap (λ t. cond t (request_of o ∷ requests_in os p) (requests_in os p)) h

pub requests-append : (xs ys : List Opened) (p : ℕ) → requests_in (xs ++ ys) p ≡ requests_in xs p ++ requests_in ys p
requests-append [] ys p = refl
requests-append (x ∷ xs) ys p =
    elim (cases_Bool (x.from == p)) [
      | inl hit ↦ requests_hit x (xs ++ ys) p true hit ∙ ap (λ t. request_of x ∷ t) (requests-append xs ys p) ∙ sym (ap (λ t. t ++ requests_in ys p) (requests_hit x xs p true hit))
      | inr miss ↦ requests_hit x (xs ++ ys) p false miss ∙ requests-append xs ys p ∙ sym (ap (λ t. t ++ requests_in ys p) (requests_hit x xs p false miss))
    ]

own_requests : (p k : ℕ) (rs : List Request) → requests_in (opened_by p k rs) p ≡ rs
own_requests p k [] = refl
own_requests p k (r ∷ rs) = requests_hit (session_by p k r) (opened_by p (k + 1) rs) p true (eq-eqb p p refl) ∙ ap (λ t. r ∷ t) (own_requests p (k + 1) rs)

pub no_requests_of_others : (q k x : ℕ) (rs : List Request) → q ≢ x → requests_in (opened_by q k rs) x ≡ []
no_requests_of_others q k x [] ne = refl
no_requests_of_others q k x (r ∷ rs) ne = requests_hit (session_by q k r) (opened_by q (k + 1) rs) x false (ne_eqb q x ne) ∙ no_requests_of_others q (k + 1) x rs ne

pub length-opened_by : (p k : ℕ) (rs : List Request) → length (opened_by p k rs) ≡ length rs
length-opened_by p k [] = refl
length-opened_by p k (r ∷ rs) = ap suc (length-opened_by p (k + 1) rs)

-- ---- of all parties

pub requests_below : (all : Requests) (n q x : ℕ) → x < q → requests_in (opened_from all n q) x ≡ []
requests_below all zero q x lt = refl
requests_below all (suc n) q x lt =
    requests-append (opened_by q 0 (all q)) (opened_from all n (q + 1)) x
    ∙ ap (λ t. t ++ requests_in (opened_from all n (q + 1)) x) (no_requests_of_others q 0 x (all q) (λ e. absurd (omega (arith, lt, e))))
    ∙ requests_below all n (q + 1) x (omega (arith, lt))

pub requests_past : (all : Requests) (n q x : ℕ) → q + n ≤ x → requests_in (opened_from all n q) x ≡ []
requests_past all zero q x le = refl
requests_past all (suc n) q x le =
    requests-append (opened_by q 0 (all q)) (opened_from all n (q + 1)) x
    ∙ ap (λ t. t ++ requests_in (opened_from all n (q + 1)) x) (no_requests_of_others q 0 x (all q) (λ e. absurd (omega (arith, le, e))))
    ∙ requests_past all n (q + 1) x (omega (arith, le))

pub requests_within : (all : Requests) (n q x : ℕ) → q ≤ x → x < q + n → requests_in (opened_from all n q) x ≡ all x
requests_within all zero q x le lt = absurd (omega (arith, le, lt))
requests_within all (suc n) q x le lt =
    requests-append (opened_by q 0 (all q)) (opened_from all n (q + 1)) x
    ∙ elim (cases_eq q x) [
      | inl same ↦
          ap (λ t. requests_in (opened_by q 0 (all q)) x ++ t) (requests_below all n (q + 1) x (omega (arith, same)))
          ∙ append-nil (requests_in (opened_by q 0 (all q)) x)
          ∙ ap (requests_in (opened_by q 0 (all q))) (sym same)
          ∙ own_requests q 0 (all q)
          ∙ ap all same
      | inr other ↦
          ap (λ t. t ++ requests_in (opened_from all n (q + 1)) x) (no_requests_of_others q 0 x (all q) other)
          ∙ requests_within all n (q + 1) x (let it : q + 1 ≤ x = omega (arith, le, λ (e : q ≡ x). other e) in it) (omega (arith, lt))
    ]

pub same_opened : (one other : Requests) (n q : ℕ) → ((x : ℕ) → q ≤ x → one x ≡ other x) → opened_from one n q ≡ opened_from other n q
same_opened one other zero q same = refl
same_opened one other (suc n) q same =
    (let first = same q (omega arith) in λ i. opened_by q 0 (first i) ++ opened_from one n (q + 1))
    ∙ ap (λ t. opened_by q 0 (other q) ++ t) (same_opened one other n (q + 1) (λ x le. same x (omega (arith, le))))

-- ---- how many lie before those of a party

before_hit : (o : Opened) (os : List Opened) (p : ℕ) (b : Bool) → nat_lt o.from p ≡ b → before_in (o ∷ os) p ≡ cond b (suc (before_in os p)) (before_in os p)
before_hit o os p b h = ap (λ t. cond t (suc (before_in os p)) (before_in os p)) h

before-append : (xs ys : List Opened) (p : ℕ) → before_in (xs ++ ys) p ≡ before_in xs p + before_in ys p
before-append [] ys p = omega arith
before-append (x ∷ xs) ys p =
    elim (cases_Bool (nat_lt x.from p)) [
      | inl hit ↦ omega (arith, before_hit x (xs ++ ys) p true hit, before_hit x xs p true hit, before-append xs ys p)
      | inr miss ↦ omega (arith, before_hit x (xs ++ ys) p false miss, before_hit x xs p false miss, before-append xs ys p)
    ]

before_of_lower : (q k p : ℕ) (rs : List Request) → q < p → before_in (opened_by q k rs) p ≡ length rs
before_of_lower q k p [] lt = refl
before_of_lower q k p (r ∷ rs) lt = before_hit (session_by q k r) (opened_by q (k + 1) rs) p true (lt-ltb q p lt) ∙ ap suc (before_of_lower q (k + 1) p rs lt)

before_of_higher : (q k p : ℕ) (rs : List Request) → p ≤ q → before_in (opened_by q k rs) p ≡ 0
before_of_higher q k p [] le = refl
before_of_higher q k p (r ∷ rs) le = before_hit (session_by q k r) (opened_by q (k + 1) rs) p false (le-ltb q p le) ∙ before_of_higher q (k + 1) p rs le

pub none_before : (all : Requests) (n q p : ℕ) → p ≤ q → before_in (opened_from all n q) p ≡ 0
none_before all zero q p le = refl
none_before all (suc n) q p le = omega (arith, before-append (opened_by q 0 (all q)) (opened_from all n (q + 1)) p, before_of_higher q 0 p (all q) le, none_before all n (q + 1) p (omega (arith, le)))

-- those of the party itself come first, and else all those of the first party come before them
pub before_first : (all : Requests) (n q : ℕ) → before_in (opened_from all (suc n) q) q ≡ 0
before_first all n q = none_before all (suc n) q q (omega arith)

pub before_later : (all : Requests) (n q p : ℕ) → q < p → before_in (opened_from all (suc n) q) p ≡ length (all q) + before_in (opened_from all n (q + 1)) p
before_later all n q p lt = before-append (opened_by q 0 (all q)) (opened_from all n (q + 1)) p ∙ ap (λ t. t + before_in (opened_from all n (q + 1)) p) (before_of_lower q 0 p (all q) lt)

-- those before the next party are those before the party, and its own
pub before_next : (os : List Opened) (p : ℕ) → before_in os (p + 1) ≡ before_in os p + length (requests_in os p)
before_next [] p = omega arith
before_next (o ∷ os) p =
    elim (cases_lt o.from p) [
      | inl low ↦
          omega (
            arith,
            before_hit o os (p + 1) true (lt-ltb o.from (p + 1) (omega (arith, low))),
            before_hit o os p true (lt-ltb o.from p low),
            ap length (requests_hit o os p false (ne_eqb o.from p (λ e. absurd (omega (arith, low, e))))),
            before_next os p,
          )
      | inr high ↦
          elim (cases_eq o.from p) [
            | inl same ↦
                omega (
                  arith,
                  before_hit o os (p + 1) true (lt-ltb o.from (p + 1) (omega (arith, same))),
                  before_hit o os p false (le-ltb o.from p high),
                  ap length (requests_hit o os p true (eq-eqb o.from p same)),
                  before_next os p,
                )
            | inr other ↦
                let more : p + 1 ≤ o.from = omega (arith, high, λ (e : o.from ≡ p). other e) in
                omega (arith, before_hit o os (p + 1) false (le-ltb o.from (p + 1) more), before_hit o os p false (le-ltb o.from p high), ap length (requests_hit o os p false (ne_eqb o.from p other)), before_next os p)
          ]
    ]

pub before_fits : (os : List Opened) (p : ℕ) → before_in os p ≤ length os
before_fits [] p = omega arith
before_fits (o ∷ os) p =
    elim (cases_Bool (nat_lt o.from p)) [
      | inl low ↦ omega (arith, before_hit o os p true low, before_fits os p)
      | inr high ↦ omega (arith, before_hit o os p false high, before_fits os p)
    ]

-- none is both before those of the party and of the party
pub all_fit : (os : List Opened) (p : ℕ) → before_in os p + length (requests_in os p) ≤ length os
all_fit os p = omega (arith, before_next os p, before_fits os (p + 1))
