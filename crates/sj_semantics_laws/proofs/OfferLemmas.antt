-- What an opening leaves of the requests, and that the openings of two parties commute.
use Rattle.std.proofs.Common.{◌≡◌, ℕ, zero, suc, ◌<◌, ◌==◌, ◌&&◌, not, Bool, true, false, cond, List, [], ◌∷◌, ◌++◌, length, slice_get, Option, Some, None, is_some, option_map, refl, ap, sym, ◌∙◌, subst, arith, inl, inr}
use Rattle.std.proofs.lemmas.Bool.{cases_Bool, eqb-true, false_from_ne_true}
use Rattle.sj_semantics.specs.Requests.{Request, is_offered, first_offer, accepted_as, Opening, no_opening, requests, accepts, requests_after}
use Rattle.sj_semantics.specs.Uses.{altered_list}
use Rattle.sj_semantics.specs.World.{World}
use Rattle.sj_semantics_laws.proofs.AlteredLemmas.{altered_comm, length-altered}
use Rattle.sj_semantics_laws.proofs.ToComeLemmas.{Offer, OpeningFits, below_by_get}

-- ---- another party's offers

first_offer-push : (q : ℕ) (rs : List Request) (s : Request) (k : ℕ) → first_offer q rs ≡ Some k → first_offer q (rs ++ s ∷ []) ≡ Some k
first_offer-push q [] s k h = cc
first_offer-push q (r ∷ rs) s k h = pushed (is_offered q r) (first_offer q rs) (first_offer q (rs ++ s ∷ [])) k (first_offer-push q rs s) h
  where
    pushed : (b : Bool) (o u : Option ℕ) (k : ℕ) → ((j : ℕ) → o ≡ Some j → u ≡ Some j) → cond b (Some 0) (option_map (λ n. suc n) o) ≡ Some k → cond b (Some 0) (option_map (λ n. suc n) u) ≡ Some k
    pushed true o u k more h = h
    pushed false None u k more h = cc
    pushed false (Some j) u k more h = ap (option_map (λ n. suc n)) (more j refl) ∙ h

not_offered : (q : ℕ) (r : Request) → (r.to ≡ q → ⊥) → is_offered q r ≡ false
not_offered q r ne = ap (λ (b : Bool). b && not (is_some r.second)) (false_from_ne_true (r.to == q) (λ t. ne (eqb-true r.to q t)))

first_offer-accepted : (q : ℕ) (rs : List Request) (j : ℕ) (r : Request) (y : ℕ) → slice_get rs j ≡ Some r → (r.to ≡ q → ⊥) → first_offer q (altered_list rs j (accepted_as y)) ≡ first_offer q rs
first_offer-accepted q [] j r y h ne = refl
first_offer-accepted q (x ∷ rs) zero r y h ne =
    let it : x ≡ r = cc in
    let differs : x.to ≡ q → ⊥ = λ e. ne (ap (λ (z : Request). z.to) (sym it) ∙ e) in
    ap (λ (b : Bool). cond b (Some 0) (option_map (λ n. suc n) (first_offer q rs))) (not_offered q (accepted_as y x) differs ∙ sym (not_offered q x differs))
first_offer-accepted q (x ∷ rs) (suc j) r y h ne = ap (λ (o : Option ℕ). cond (is_offered q x) (Some 0) (option_map (λ n. suc n) o)) (first_offer-accepted q rs j r y h ne)

-- what is offered to a party stays offered, whatever another one opens or accepts
pub offers_stay : (w : World) (p q : ℕ) (o : Opening) (a k : ℕ) → (p ≡ q → ⊥) → OpeningFits w p o → first_offer q (w.requests a) ≡ Some k → first_offer q (requests_after p o a (w.requests a)) ≡ Some k
offers_stay w p q no_opening a k ne fits h = h
offers_stay w p q (requests r) a k ne fits h =
    elim (cases_Bool (a == p)) [
      | inl it ↦ ap (λ (b : Bool). first_offer q (cond b (w.requests a ++ r ∷ []) (w.requests a))) it ∙ first_offer-push q (w.requests a) r k h
      | inr other ↦ ap (λ (b : Bool). first_offer q (cond b (w.requests a ++ r ∷ []) (w.requests a))) other ∙ h
    ]
offers_stay w p q (accepts b j y) a k ne fits h =
    elim (cases_Bool (a == b)) [
      | inl it ↦
          ap (λ (t : Bool). first_offer q (cond t (altered_list (w.requests a) j (accepted_as y)) (w.requests a))) it
          ∙ first_offer-accepted q (w.requests a) j fits.0 y (ap (λ (i : ℕ). slice_get (w.requests i) j) (eqb-true a b it) ∙ fits.1) (λ e. ne (sym fits.2 ∙ e)) ∙ h
      | inr other ↦ ap (λ (t : Bool). first_offer q (cond t (altered_list (w.requests a) j (accepted_as y)) (w.requests a))) other ∙ h
    ]

-- a party asks for no more where another one acts
pub asked_stays : (w : World) (p q : ℕ) (o : Opening) → (p ≡ q → ⊥) → length (requests_after p o q (w.requests q)) ≡ length (w.requests q)
asked_stays w p q no_opening ne = refl
asked_stays w p q (requests r) ne = ap (λ (b : Bool). length (cond b (w.requests q ++ r ∷ []) (w.requests q))) (false_from_ne_true (q == p) (λ t. ne (sym (eqb-true q p t))))
asked_stays w p q (accepts b j y) ne =
    elim (cases_Bool (q == b)) [
      | inl it ↦ ap (λ (t : Bool). length (cond t (altered_list (w.requests q) j (accepted_as y)) (w.requests q))) it ∙ length-altered (w.requests q) j (accepted_as y)
      | inr other ↦ ap (λ (t : Bool). length (cond t (altered_list (w.requests q) j (accepted_as y)) (w.requests q))) other
    ]

-- ---- two openings

both_ways : (b c : Bool) (F G : List Request → List Request) (rs : List Request) → (b ≡ true → c ≡ true → G (F rs) ≡ F (G rs))
    → cond c (G (cond b (F rs) rs)) (cond b (F rs) rs) ≡ cond b (F (cond c (G rs) rs)) (cond c (G rs) rs)
both_ways true true F G rs h = h refl refl
both_ways true false F G rs h = refl
both_ways false true F G rs h = refl
both_ways false false F G rs h = refl

altered-push : (rs : List Request) (k : ℕ) (f : Request → Request) (s : Request) → k < length rs → altered_list (rs ++ s ∷ []) k f ≡ altered_list rs k f ++ s ∷ []
altered-push [] k f s lt = absurd (omega arith)
altered-push (r ∷ rs) zero f s lt = refl
altered-push (r ∷ rs) (suc k) f s lt = ap (λ t. r ∷ t) (altered-push rs k f s (omega arith))

offer_at : (w : World) (p a b k : ℕ) → (a == b) ≡ true → Offer p k (w.requests b) → Offer p k (w.requests a)
offer_at w p a b k it o = subst (λ (i : ℕ). Offer p k (w.requests i)) (sym (eqb-true a b it)) o

two_offers : (p q k j : ℕ) (rs : List Request) → (p ≡ q → ⊥) → Offer p k rs → Offer q j rs → k ≡ j → ⊥
two_offers p q k j rs ne o r e =
    let same : o.0 ≡ r.0 = (let both : Some o.0 ≡ Some r.0 = sym o.1 ∙ ap (slice_get rs) e ∙ r.1 in cc) in
    ne (sym o.2 ∙ ap (λ (u : Request). u.to) same ∙ r.2)

pub openings_comm : (w : World) (p q : ℕ) (o r : Opening) (a : ℕ) → (p ≡ q → ⊥) → OpeningFits w p o → OpeningFits w q r
    → requests_after q r a (requests_after p o a (w.requests a)) ≡ requests_after p o a (requests_after q r a (w.requests a))
openings_comm w p q no_opening r a ne fo fr = refl
openings_comm w p q (requests s) no_opening a ne fo fr = refl
openings_comm w p q (accepts b k y) no_opening a ne fo fr = refl
openings_comm w p q (requests s) (requests u) a ne fo fr =
    both_ways (a == p) (a == q) (λ rs. rs ++ s ∷ []) (λ rs. rs ++ u ∷ []) (w.requests a) (λ t v. absurd (ne (sym (eqb-true a p t) ∙ eqb-true a q v)))
openings_comm w p q (requests s) (accepts b k y) a ne fo fr =
    both_ways (a == p) (a == b) (λ rs. rs ++ s ∷ []) (λ rs. altered_list rs k (accepted_as y)) (w.requests a)
    (λ t v. let o = offer_at w q a b k v fr in altered-push (w.requests a) k (accepted_as y) s (below_by_get (w.requests a) k o.0 o.1))
openings_comm w p q (accepts b k y) (requests u) a ne fo fr =
    both_ways (a == b) (a == q) (λ rs. altered_list rs k (accepted_as y)) (λ rs. rs ++ u ∷ []) (w.requests a)
    (λ t v. let o = offer_at w p a b k t fo in sym (altered-push (w.requests a) k (accepted_as y) u (below_by_get (w.requests a) k o.0 o.1)))
openings_comm w p q (accepts b k y) (accepts c j z) a ne fo fr =
    both_ways (a == b) (a == c) (λ rs. altered_list rs k (accepted_as y)) (λ rs. altered_list rs j (accepted_as z)) (w.requests a)
    (λ t v. altered_comm (w.requests a) k j (accepted_as y) (accepted_as z) (two_offers p q k j (w.requests a) ne (offer_at w p a b k t fo) (offer_at w q a c j v fr)))
