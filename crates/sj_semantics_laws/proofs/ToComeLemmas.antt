-- Ends that are still to come: which of them an act opens, and that the others stay to come.
use Rattle.std.proofs.Common.{◌≡◌, ℕ, zero, suc, ◌+◌, ◌*◌, ◌≤◌, ◌<◌, ◌==◌, nat_lt, not, Bool, true, false, cond, List, [], ◌∷◌, ◌++◌, length, slice_get, Option, Some, None, is_some, option_map, refl, ap, sym, ◌∙◌, subst, ◌⊎◌, inl, inr, arith, length-append}
use Rattle.std.specs.Bool.{⊤}
use Rattle.std.proofs.lemmas.Bool.{cases_Bool, cases_eq, and_parts, eqb-true, eq-eqb, ltb-true, true≢false, false_from_ne_true}
use Rattle.sj_base.specs.declared.EndId.{EndId}
use Rattle.sj_lang.specs.Place.{Place}
use Rattle.sj_lang.specs.FileAt.{body_named}
use Rattle.sj_semantics.specs.declared.Passed.{Passed}
use Rattle.sj_semantics.specs.declared.Want.{Want}
use Rattle.sj_semantics.specs.declared.Want.TheVariants as wants
use Rattle.sj_semantics.specs.Program.{Program}
use Rattle.sj_semantics.specs.Ends.{end_at, next_for, is_end, is_same_side, limit_of_hops}
use Rattle.sj_semantics.specs.Requests.{Request, limit_of_requests, opened_number, is_offered, first_offer, accepted_as, Opening, no_opening, requests, accepts, requests_after}
use Rattle.sj_semantics.specs.Steps.{sent_of}
use Rattle.sj_semantics.specs.Uses.{sends, delegates, altered_list}
use Rattle.sj_semantics.specs.World.{World, Change, plain_change, session_message, change_by_taking, change_by_opening, change_by_accepting, change_by, changed_world}
use Rattle.sj_semantics_laws.specs.Unshared.{IsToCome, to_open, to_accept}
use Rattle.sj_semantics_laws.proofs.AlteredLemmas.{slice_get-altered, slice_get-altered_other, length-altered}
use Rattle.sj_semantics_laws.proofs.ChangeLemmas.{Rests}

-- ---- offers

-- the request of that number, to the party, not accepted
abbrev pub Offer : ℕ → ℕ → List Request → Type 0
Offer p k rs = (r : Request) × (slice_get rs k ≡ Some r) × (r.to ≡ p) × (r.second ≡ None)

none_by_not : (o : Option ℕ) → not (is_some o) ≡ true → o ≡ None
none_by_not None h = refl
none_by_not (Some y) h = cc

offered_parts : (p : ℕ) (r : Request) → is_offered p r ≡ true → (r.to ≡ p) × (r.second ≡ None)
offered_parts p r h = let parts = and_parts (r.to == p) (not (is_some r.second)) h in (eqb-true r.to p parts.0, none_by_not r.second parts.1)

pub one_further : (o : Option ℕ) (k : ℕ) → option_map (λ n. suc n) o ≡ Some k → (j : ℕ) × (o ≡ Some j) × (k ≡ suc j)
one_further None k h = cc
one_further (Some j) k h = (j, refl, cc)

pub first_is_offer : (p : ℕ) (rs : List Request) (k : ℕ) → first_offer p rs ≡ Some k → Offer p k rs
first_is_offer p [] k h = cc
first_is_offer p (r ∷ rs) k h =
    elim (cases_Bool (is_offered p r)) [
      | inl it ↦
          let at_head : 0 ≡ k = (let f : Some 0 ≡ Some k = sym (ap (λ (b : Bool). cond b (Some 0) (option_map (λ n. suc n) (first_offer p rs))) it) ∙ h in cc) in
          let parts = offered_parts p r it in
          (r, ap (slice_get (r ∷ rs)) (sym at_head), parts.0, parts.1)
      | inr other ↦
          let on : (j : ℕ) × (first_offer p rs ≡ Some j) × (k ≡ suc j) = one_further (first_offer p rs) k (sym (ap (λ (b : Bool). cond b (Some 0) (option_map (λ n. suc n) (first_offer p rs))) other) ∙ h) in
          let later : Offer p on.0 rs = first_is_offer p rs on.0 on.1 in
          (later.0, ap (slice_get (r ∷ rs)) on.2 ∙ later.1, later.2, later.3)
    ]

-- ---- what an opening rests on

abbrev pub OpeningFits : World → ℕ → Opening → Type 0
OpeningFits w p no_opening = ⊤
OpeningFits w p (requests r) = length (w.requests p) < limit_of_requests
OpeningFits w p (accepts q k y) = Offer p k (w.requests q)

abbrev FitsIf : World → ℕ → Option Change → Type 0
FitsIf w p None = ⊤
FitsIf w p (Some c) = OpeningFits w p c.opening

taking_fits : (w : World) (p : ℕ) (f : Passed → Change) (o : Option Passed) → ((x : Passed) → OpeningFits w p (f x).opening) → FitsIf w p (option_map f o)
taking_fits w p f None h = tt
taking_fits w p f (Some x) h = h x

cond_fits : (w : World) (p : ℕ) (b : Bool) (c : Change) → (b ≡ true → OpeningFits w p c.opening) → FitsIf w p (cond b (Some c) None)
cond_fits w p true c h = h refl
cond_fits w p false c h = tt

accepting_fits : (w : World) (p : ℕ) (g : Program) (q : ℕ) (place : Place) (o : Option ℕ) → first_offer p (w.requests q) ≡ o → FitsIf w p (option_map (change_by_accepting g q place) o)
accepting_fits w p g q place None h = tt
accepting_fits w p g q place (Some k) h = first_is_offer p (w.requests q) k h

by_fits : (w : World) (p : ℕ) (g : Program) (want : Want) → FitsIf w p (change_by w p g want)
by_fits w p g wants.Ended = tt
by_fits w p g wants.Local = tt
by_fits w p g (wants.Send e m) = tt
by_fits w p g (wants.Delegate e y) = cond_fits w p (nat_lt (end_at w.sessions y).hops limit_of_hops) (plain_change (sent_of g) ((y, delegates) ∷ (e, sends (session_message y p)) ∷ [])) (λ t. tt)
by_fits w p g (wants.Take e a) = taking_fits w p (change_by_taking w.protocols g e a) (next_for w.sessions e) (λ x. tt)
by_fits w p g (wants.Close e) = tt
by_fits w p g (wants.Request n q) =
    cond_fits w p (nat_lt (length (w.requests p)) limit_of_requests) (change_by_opening g (opened_number p (length (w.requests p))) (body_named w.protocols n) q)
    (λ t. ltb-true (length (w.requests p)) limit_of_requests t)
by_fits w p g (wants.Accept n q) = accepting_fits w p g q (body_named w.protocols n) (first_offer p (w.requests q)) refl

pub opening_fits : (w : World) (p : ℕ) (g : Program) (c : Change) → Rests w p g c → OpeningFits w p c.opening
opening_fits w p g c r = subst (FitsIf w p) r.by_it (by_fits w p g r.want)

-- ---- which end is opened

-- the first end of a session that is requested, or the second end of one that is accepted
abbrev pub opens : EndId → World → ℕ → Opening → Bool
opens e w p no_opening = false
opens e w p (requests r) = is_end e (record { sess = opened_number p (length (w.requests p)); side = 0 })
opens e w p (accepts q k y) = is_end e (record { sess = opened_number q k; side = 1 })

pub session_of_end : (e f : EndId) → is_end e f ≡ true → e.sess ≡ f.sess
session_of_end e f t = eqb-true e.sess f.sess (and_parts (e.sess == f.sess) (is_same_side e.side f.side) t).0

side_of_end : (e f : EndId) → is_end e f ≡ true → is_same_side e.side f.side ≡ true
side_of_end e f t = (and_parts (e.sess == f.sess) (is_same_side e.side f.side) t).1

turned_side : (d : ℕ) → is_same_side d 1 ≡ true → is_same_side 1 d ≡ true
turned_side zero t = cc
turned_side (suc d) t = refl

-- an end that is opened was to come
pub opened_was_to_come : (w : World) (p : ℕ) (o : Opening) (e : EndId) → OpeningFits w p o → opens e w p o ≡ true → IsToCome w e
opened_was_to_come w p no_opening e fits t = cc
opened_was_to_come w p (requests r) e fits t = to_open p (length (w.requests p)) (omega arith) fits (session_of_end e (record { sess = opened_number p (length (w.requests p)); side = 0 }) t)
opened_was_to_come w p (accepts q k y) e fits t =
    let f : EndId = record { sess = opened_number q k; side = 1 } in
    to_accept q k fits.0 fits.1 fits.3 (session_of_end e f t) (turned_side e.side (side_of_end e f t))

-- ---- numbers

number_same : (p q k j : ℕ) → k < 100 → j < 100 → 64 + 100 * p + k ≡ 64 + 100 * q + j → (p ≡ q) × (k ≡ j)
number_same p q k j lk lj h = (omega arith, omega arith)

pub opened_number_same : (p q k j : ℕ) → k < limit_of_requests → j < limit_of_requests → opened_number p k ≡ opened_number q j → (p ≡ q) × (k ≡ j)
opened_number_same p q k j lk lj h = number_same p q k j lk lj h

pub below_by_get : {X : Type 0} (xs : List X) (k : ℕ) (x : X) → slice_get xs k ≡ Some x → k < length xs
below_by_get [] k x h = cc
below_by_get (y ∷ xs) zero x h = omega arith
below_by_get (y ∷ xs) (suc k) x h = omega (arith, below_by_get xs k x h)

-- ---- what stays to come

pub pushed_length : (p a : ℕ) (r : Request) (rs : List Request) → a ≡ p → length (requests_after p (requests r) a rs) ≡ suc (length rs)
pushed_length p a r rs e =
    ap (λ (b : Bool). length (cond b (rs ++ r ∷ []) rs)) (eq-eqb a p e) ∙ (let it : length (rs ++ r ∷ []) ≡ suc (length rs) = omega (arith, length-append rs (r ∷ [])) in it)

pub requests_le : (p : ℕ) (o : Opening) (a : ℕ) (rs : List Request) → length rs ≤ length (requests_after p o a rs)
requests_le p no_opening a rs = omega arith
requests_le p (requests r) a rs =
    elim (cases_Bool (a == p)) [
      | inl it ↦ omega (arith, pushed_length p a r rs (eqb-true a p it))
      | inr other ↦ omega (arith, ap (λ (b : Bool). length (cond b (rs ++ r ∷ []) rs)) other)
    ]
requests_le p (accepts q k y) a rs =
    elim (cases_Bool (a == q)) [
      | inl it ↦ omega (arith, ap (λ (b : Bool). length (cond b (altered_list rs k (accepted_as y)) rs)) it, length-altered rs k (accepted_as y))
      | inr other ↦ omega (arith, ap (λ (b : Bool). length (cond b (altered_list rs k (accepted_as y)) rs)) other)
    ]

pub get_pushed : (rs : List Request) (s : Request) (k : ℕ) (r : Request) → slice_get (rs ++ s ∷ []) k ≡ Some r → (k ≡ length rs) ⊎ (slice_get rs k ≡ Some r)
get_pushed [] s zero r h = inl refl
get_pushed [] s (suc k) r h = cc
get_pushed (x ∷ rs) s zero r h = inr h
get_pushed (x ∷ rs) s (suc k) r h = elim (get_pushed rs s k r h) [ inl e ↦ inl (ap suc e) | inr e ↦ inr e ]

first_isnt_second : (d : ℕ) → is_same_side d 0 ≡ true → is_same_side 1 d ≡ true → ⊥
first_isnt_second zero t u = cc
first_isnt_second (suc d) t u = cc

-- an end that isn't opened yet isn't opened by the opening
open_not_opened : (w : World) (p : ℕ) (o : Opening) (e : EndId) (a k : ℕ) → OpeningFits w p o → ((b : ℕ) → length (w.requests b) ≤ limit_of_requests) → length (requests_after p o a (w.requests a)) ≤ k → k < limit_of_requests → e.sess ≡ opened_number a k → opens e w p o ≡ false
open_not_opened w p no_opening e a k fits few le lt num = refl
open_not_opened w p (requests r) e a k fits few le lt num =
    false_from_ne_true _ (λ t.
    let s = opened_number_same p a (length (w.requests p)) k fits lt (sym (session_of_end e (record { sess = opened_number p (length (w.requests p)); side = 0 }) t) ∙ num) in
    absurd (omega (arith, s.0, s.1, le, pushed_length p a r (w.requests a) (sym s.0), ap (λ (n : ℕ). length (w.requests n)) s.0)))
open_not_opened w p (accepts q j y) e a k fits few le lt num =
    false_from_ne_true _ (λ t.
    let below : j < length (w.requests q) = below_by_get (w.requests q) j fits.0 fits.1 in
    let s = opened_number_same q a j k (omega (arith, few q, below)) lt (sym (session_of_end e (record { sess = opened_number q j; side = 1 }) t) ∙ num) in
    absurd (omega (arith, s.0, s.1, le, below, requests_le p (accepts q j y) a (w.requests a), ap (λ (n : ℕ). length (w.requests n)) s.0)))

-- an end that wasn't accepted stays to come, and isn't the one that is opened
accept_stays : (w : World) (p : ℕ) (o : Opening) (e : EndId) (a k : ℕ) (r : Request) → OpeningFits w p o → ((b : ℕ) → length (w.requests b) ≤ limit_of_requests) → slice_get (requests_after p o a (w.requests a)) k ≡ Some r → r.second ≡ None
    → e.sess ≡ opened_number a k → is_same_side 1 e.side ≡ true → IsToCome w e × (opens e w p o ≡ false)
accept_stays w p no_opening e a k r fits few there none num side = (to_accept a k r there none num side, refl)
accept_stays w p (requests s) e a k r fits few there none num side = (
  elim (cases_Bool (a == p)) [
    | inl it ↦
        elim (get_pushed (w.requests a) s k r (sym (ap (λ (b : Bool). slice_get (cond b (w.requests a ++ s ∷ []) (w.requests a)) k) it) ∙ there)) [
          | inl new ↦ to_open a k (omega (arith, new)) (omega (arith, new, ap (λ (n : ℕ). length (w.requests n)) (eqb-true a p it))) num
          | inr old ↦ to_accept a k r old none num side
        ]
    | inr other ↦ to_accept a k r (sym (ap (λ (b : Bool). slice_get (cond b (w.requests a ++ s ∷ []) (w.requests a)) k) other) ∙ there) none num side
  ],
  false_from_ne_true _ (λ t. first_isnt_second e.side (side_of_end e (record { sess = opened_number p (length (w.requests p)); side = 0 }) t) side),
)
accept_stays w p (accepts q j y) e a k r fits few there none num side =
    elim (cases_Bool (a == q)) [
      | inl it ↦
          let got : slice_get (altered_list (w.requests a) j (accepted_as y)) k ≡ Some r = sym (ap (λ (b : Bool). slice_get (cond b (altered_list (w.requests a) j (accepted_as y)) (w.requests a)) k) it) ∙ there in
          elim (cases_eq j k) [
            | inl same ↦
                absurd (accepted_is_some y (slice_get (w.requests a) j) r none (sym (slice_get-altered (w.requests a) j (accepted_as y)) ∙ ap (slice_get (altered_list (w.requests a) j (accepted_as y))) same ∙ got))
            | inr differ ↦ (
              to_accept a k r (sym (slice_get-altered_other (w.requests a) j k (accepted_as y) differ) ∙ got) none num side,
              false_from_ne_true _ (λ t. differ (numbers_at t (sym (slice_get-altered_other (w.requests a) j k (accepted_as y) differ) ∙ got)).1),
            )
          ]
      | inr other ↦
          let old : slice_get (w.requests a) k ≡ Some r = sym (ap (λ (b : Bool). slice_get (cond b (altered_list (w.requests a) j (accepted_as y)) (w.requests a)) k) other) ∙ there in
          (to_accept a k r old none num side, false_from_ne_true _ (λ t. true≢false (sym (eq-eqb a q (sym (numbers_at t old).0)) ∙ other)))
    ]
  where
    accepted_is_some : (y : ℕ) (o : Option Request) (r : Request) → r.second ≡ None → option_map (accepted_as y) o ≡ Some r → ⊥
    accepted_is_some y None r none h = cc
    accepted_is_some y (Some x) r none h = let it : accepted_as y x ≡ r = cc in let both : Some y ≡ None = ap (λ (z : Request). z.second) it ∙ none in cc

    numbers_at : is_end e (record { sess = opened_number q j; side = 1 }) ≡ true → slice_get (w.requests a) k ≡ Some r → (q ≡ a) × (j ≡ k)
    numbers_at t old =
        opened_number_same q a j k (omega (arith, few q, below_by_get (w.requests q) j fits.0 fits.1)) (omega (arith, few a, below_by_get (w.requests a) k r old))
        (sym (session_of_end e (record { sess = opened_number q j; side = 1 }) t) ∙ num)

-- what is to come after an opening was to come, and isn't what was opened
pub stays_to_come : (w : World) (p : ℕ) (c : Change) (e : EndId) → OpeningFits w p c.opening → ((b : ℕ) → length (w.requests b) ≤ limit_of_requests) → IsToCome (changed_world w p c) e → IsToCome w e × (opens e w p c.opening ≡ false)
stays_to_come w p c e fits few (to_open a k le lt num) =
    (to_open a k (omega (arith, le, requests_le p c.opening a (w.requests a))) lt num, open_not_opened w p c.opening e a k fits few le lt num)
stays_to_come w p c e fits few (to_accept a k r there none num side) = accept_stays w p c.opening e a k r fits few there none num side

-- no party comes beyond its limit
pub requests_stay_few : (w : World) (p : ℕ) (o : Opening) (a : ℕ) → OpeningFits w p o → length (w.requests a) ≤ limit_of_requests → length (requests_after p o a (w.requests a)) ≤ limit_of_requests
requests_stay_few w p no_opening a fits few = few
requests_stay_few w p (requests r) a fits few =
    elim (cases_Bool (a == p)) [
      | inl it ↦ omega (arith, fits, pushed_length p a r (w.requests a) (eqb-true a p it), ap (λ (n : ℕ). length (w.requests n)) (eqb-true a p it))
      | inr other ↦ omega (arith, few, ap (λ (b : Bool). length (cond b (w.requests a ++ r ∷ []) (w.requests a))) other)
    ]
requests_stay_few w p (accepts q k y) a fits few =
    elim (cases_Bool (a == q)) [
      | inl it ↦ omega (arith, few, ap (λ (b : Bool). length (cond b (altered_list (w.requests a) k (accepted_as y)) (w.requests a))) it, length-altered (w.requests a) k (accepted_as y))
      | inr other ↦ omega (arith, few, ap (λ (b : Bool). length (cond b (altered_list (w.requests a) k (accepted_as y)) (w.requests a))) other)
    ]
