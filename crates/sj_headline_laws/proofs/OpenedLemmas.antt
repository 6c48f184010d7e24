-- Which ends an opening opens, and which sessions are to come or offered after it.
use Rattle.std.proofs.Common.{◌≡◌, ℕ, zero, suc, ◌≤◌, ◌<◌, ◌==◌, Bool, true, false, cond, List, [], ◌∷◌, ◌++◌, length, slice_get, Option, Some, None, option_map, refl, ap, sym, ◌∙◌, ◌⊎◌, inl, inr, arith, length-append}
use Rattle.std.specs.Bool.{⊤}
use Rattle.std.proofs.lemmas.Bool.{cases_Bool, cases_eq, and_left, ne_eqb, eqb-true, eq-eqb}
use Rattle.sj_base.specs.declared.EndId.{EndId}
use Rattle.sj_semantics.specs.Ends.{is_end, is_same_side}
use Rattle.sj_semantics.specs.Requests.{Request, limit_of_requests, opened_number, accepted_as, Opening, no_opening, requests, accepts, requests_after}
use Rattle.sj_semantics.specs.Uses.{altered_list}
use Rattle.sj_semantics.specs.World.{World}
use Rattle.sj_semantics_laws.proofs.AlteredLemmas.{slice_get-altered, slice_get-altered_other, length-altered}
use Rattle.sj_semantics_laws.proofs.ToComeLemmas.{OpeningFits, opened_number_same, below_by_get}
use Rattle.sj_headline_laws.proofs.TouchedLemmas.{side}

-- the end isn't one that the party's opening opens
abbrev pub NotOpened : World → ℕ → Opening → EndId → Type 0
NotOpened w p no_opening e = ⊤
NotOpened w p (requests r) e = opened_number p (length (w.requests p)) ≡ e.sess → ⊥
NotOpened w p (accepts q k y) e = is_end (side (opened_number q k) 1) e ≡ false

-- ---- one party's requests

pushed_is : (p a : ℕ) (r : Request) (rs : List Request) → a == p ≡ true → requests_after p (requests r) a rs ≡ rs ++ r ∷ []
pushed_is p a r rs it = ap (λ (b : Bool). cond b (rs ++ r ∷ []) rs) it

not_pushed : (p a : ℕ) (r : Request) (rs : List Request) → a == p ≡ false → requests_after p (requests r) a rs ≡ rs
not_pushed p a r rs other = ap (λ (b : Bool). cond b (rs ++ r ∷ []) rs) other

accepted_is : (p q k y a : ℕ) (rs : List Request) → a == q ≡ true → requests_after p (accepts q k y) a rs ≡ altered_list rs k (accepted_as y)
accepted_is p q k y a rs it = ap (λ (b : Bool). cond b (altered_list rs k (accepted_as y)) rs) it

not_accepted : (p q k y a : ℕ) (rs : List Request) → a == q ≡ false → requests_after p (accepts q k y) a rs ≡ rs
not_accepted p q k y a rs other = ap (λ (b : Bool). cond b (altered_list rs k (accepted_as y)) rs) other

pub requests_grow : (p : ℕ) (o : Opening) (a : ℕ) (rs : List Request) → length rs ≤ length (requests_after p o a rs)
requests_grow p no_opening a rs = omega arith
requests_grow p (requests r) a rs =
    elim (cases_Bool (a == p)) [
      | inl it ↦ omega (arith, ap length (pushed_is p a r rs it), length-append rs (r ∷ []))
      | inr other ↦ omega (arith, ap length (not_pushed p a r rs other))
    ]
requests_grow p (accepts q k y) a rs =
    elim (cases_Bool (a == q)) [
      | inl it ↦ omega (arith, ap length (accepted_is p q k y a rs it), length-altered rs k (accepted_as y))
      | inr other ↦ omega (arith, ap length (not_accepted p q k y a rs other))
    ]

pushed_longer : (p a : ℕ) (r : Request) (rs : List Request) → a ≡ p → length (requests_after p (requests r) a rs) ≡ suc (length rs)
pushed_longer p a r rs e = omega (arith, ap length (pushed_is p a r rs (eq-eqb a p e)), length-append rs (r ∷ []))

-- ---- what isn't opened yet isn't opened by the opening

pub open_not_opened : (w : World) (p : ℕ) (o : Opening) (a k d : ℕ) → OpeningFits w p o → ((b : ℕ) → length (w.requests b) ≤ limit_of_requests) → length (requests_after p o a (w.requests a)) ≤ k → k < limit_of_requests
    → NotOpened w p o (side (opened_number a k) d)
open_not_opened w p no_opening a k d fits few le lt = tt
open_not_opened w p (requests r) a k d fits few le lt = λ same.
    let n = opened_number_same p a (length (w.requests p)) k fits lt same in
    absurd (omega (arith, n.1, le, pushed_longer p a r (w.requests a) (sym n.0), ap (λ (i : ℕ). length (w.requests i)) n.0))
open_not_opened w p (accepts q j y) a k d fits few le lt =
    let below : j < length (w.requests q) = below_by_get (w.requests q) j fits.0 fits.1 in
    and_left (opened_number q j == opened_number a k) (is_same_side 1 d) (ne_eqb (opened_number q j) (opened_number a k) (λ same.
    let n = opened_number_same q a j k (omega (arith, few q, below)) lt same in
    absurd (omega (arith, n.1, le, below, requests_grow p (accepts q j y) a (w.requests a), ap (λ (i : ℕ). length (w.requests i)) n.0))))

-- ---- what is offered was offered, or is requested now

get_pushed : (rs : List Request) (s : Request) (k : ℕ) (r : Request) → slice_get (rs ++ s ∷ []) k ≡ Some r → ((k ≡ length rs) × (s ≡ r)) ⊎ (slice_get rs k ≡ Some r)
get_pushed [] s zero r h = inl (refl, cc)
get_pushed [] s (suc k) r h = cc
get_pushed (x ∷ rs) s zero r h = inr h
get_pushed (x ∷ rs) s (suc k) r h = elim (get_pushed rs s k r h) [ inl e ↦ inl (ap suc e.0, e.1) | inr e ↦ inr e ]

-- it is an old request of the party a, whose session isn't opened now, or the new one
pub data Offers (w : World) (p : ℕ) (o : Opening) (a k : ℕ) (r : Request) : Type 0 where
  was : slice_get (w.requests a) k ≡ Some r → NotOpened w p o (side (opened_number a k) 1) → Offers w p o a k r
  new : o ≡ requests r → a ≡ p → k ≡ length (w.requests p) → Offers w p o a k r

old_not_requested : (w : World) (p a k : ℕ) (r : Request) → length (w.requests p) < limit_of_requests → ((b : ℕ) → length (w.requests b) ≤ limit_of_requests) → slice_get (w.requests a) k ≡ Some r
    → opened_number p (length (w.requests p)) ≡ opened_number a k → ⊥
old_not_requested w p a k r fits few there same =
    let below : k < length (w.requests a) = below_by_get (w.requests a) k r there in
    let n = opened_number_same p a (length (w.requests p)) k fits (omega (arith, few a, below)) same in
    absurd (omega (arith, n.1, below, ap (λ (i : ℕ). length (w.requests i)) n.0))

accepted_is_some : (y : ℕ) (o : Option Request) (r : Request) → r.second ≡ None → option_map (accepted_as y) o ≡ Some r → ⊥
accepted_is_some y None r none h = cc
accepted_is_some y (Some x) r none h = let it : accepted_as y x ≡ r = cc in let both : Some y ≡ None = ap (λ (z : Request). z.second) it ∙ none in cc

old_not_accepted : (w : World) (q j a k : ℕ) (x r : Request) → ((b : ℕ) → length (w.requests b) ≤ limit_of_requests) → slice_get (w.requests q) j ≡ Some x → slice_get (w.requests a) k ≡ Some r
    → (q ≡ a → j ≡ k → ⊥) → is_end (side (opened_number q j) 1) (side (opened_number a k) 1) ≡ false
old_not_accepted w q j a k x r few at there differ =
    and_left (opened_number q j == opened_number a k) (is_same_side 1 1) (ne_eqb (opened_number q j) (opened_number a k) (λ same.
    let n = opened_number_same q a j k (omega (arith, few q, below_by_get (w.requests q) j x at)) (omega (arith, few a, below_by_get (w.requests a) k r there)) same in
    differ n.0 n.1))

pub offers_after : (w : World) (p : ℕ) (o : Opening) (a k : ℕ) (r : Request) → OpeningFits w p o → ((b : ℕ) → length (w.requests b) ≤ limit_of_requests) → slice_get (requests_after p o a (w.requests a)) k ≡ Some r → r.second ≡ None
    → Offers w p o a k r
offers_after w p no_opening a k r fits few there none = was there tt
offers_after w p (requests s) a k r fits few there none =
    elim (cases_Bool (a == p)) [
      | inl it ↦
          elim (get_pushed (w.requests a) s k r (sym (ap (λ rs. slice_get rs k) (pushed_is p a s (w.requests a) it)) ∙ there)) [
            | inl e ↦ new (ap requests e.1) (eqb-true a p it) (e.0 ∙ ap (λ i. length (w.requests i)) (eqb-true a p it))
            | inr old ↦ was old (old_not_requested w p a k r fits few old)
          ]
      | inr other ↦
          let old : slice_get (w.requests a) k ≡ Some r = sym (ap (λ rs. slice_get rs k) (not_pushed p a s (w.requests a) other)) ∙ there in
          was old (old_not_requested w p a k r fits few old)
    ]
offers_after w p (accepts q j y) a k r fits few there none =
    elim (cases_Bool (a == q)) [
      | inl it ↦
          let got : slice_get (altered_list (w.requests a) j (accepted_as y)) k ≡ Some r = sym (ap (λ rs. slice_get rs k) (accepted_is p q j y a (w.requests a) it)) ∙ there in
          elim (cases_eq j k) [
            | inl same ↦
                absurd (accepted_is_some y (slice_get (w.requests a) j) r none (sym (slice_get-altered (w.requests a) j (accepted_as y)) ∙ ap (slice_get (altered_list (w.requests a) j (accepted_as y))) same ∙ got))
            | inr differ ↦
                let old : slice_get (w.requests a) k ≡ Some r = sym (slice_get-altered_other (w.requests a) j k (accepted_as y) differ) ∙ got in
                was old (old_not_accepted w q j a k fits.0 r few fits.1 old (λ e f. differ f))
          ]
      | inr other ↦
          let old : slice_get (w.requests a) k ≡ Some r = sym (ap (λ rs. slice_get rs k) (not_accepted p q j y a (w.requests a) other)) ∙ there in
          was old (old_not_accepted w q j a k fits.0 r few fits.1 old (λ e f. let clash : false ≡ true = sym other ∙ eq-eqb a q (sym e) in cc))
    ]
