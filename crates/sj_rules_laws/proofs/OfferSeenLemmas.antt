-- What the rules see of requests: which sessions are offered, and which ends.
use Rattle.std.proofs.Common.{◌≡◌, ℕ, zero, suc, ◌+◌, ◌-◌, ◌<◌, ◌≤◌, ◌==◌, Bool, true, false, not, ◌&&◌, cond, List, [], ◌∷◌, ◌++◌, length, slice_get, Option, Some, None, is_some, is_none, option_map, refl, ap, sym, ◌∙◌, arith, inl, inr}
use Rattle.std.specs.Prelude.{nat_le}
use Rattle.std.proofs.lemmas.Bool.{cases_Bool, and_parts, and_from, and_left, eqb-true, eq-eqb, le-leb, leb-true, false_from_ne_true, both_ways}
use Rattle.sj_base.specs.declared.EndId.{EndId}
use Rattle.sj_semantics.specs.Requests.{Request, Requests, is_offered, first_offer, accepted_as, requests, accepts, after_opening}
use Rattle.sj_semantics.specs.Uses.{altered_list}
use Rattle.sj_semantics_laws.proofs.AlteredLemmas.{slice_get-altered, slice_get-altered_other, length-altered}
use Rattle.sj_semantics_laws.proofs.ToComeLemmas.{Offer, first_is_offer, one_further, below_by_get}
use Rattle.sj_rules.specs.Limits.{limit_of_requests, first_opened}
use Rattle.sj_rules.specs.Record.{is_same_end, offered_end}
use Rattle.sj_rules.specs.Opened.{opened_number, opener_of}
use Rattle.sj_rules.specs.Plain.{offered_from, is_unaccepted, request_of, is_offered_end}
use Rattle.sj_opened_lemmas.proofs.RequestKeepLemmas.{opener_of_opened}

-- ---- one request more

further : (b : Bool) (s : ℕ) (xs ys : List ℕ) → cond b (s ∷ (xs ++ ys)) (xs ++ ys) ≡ cond b (s ∷ xs) xs ++ ys
further true s xs ys = refl
further false s xs ys = refl

-- a request that is not to q adds nothing there
pub offered_more : (q p k : ℕ) (rs : List Request) (r : Request) → offered_from q p k (rs ++ r ∷ []) ≡ offered_from q p k rs ++ cond (is_offered q r) (opened_number p (k + length rs) ∷ []) []
offered_more q p k [] r = ap (λ (n : ℕ). cond (is_offered q r) (opened_number p n ∷ []) []) (let e : k ≡ k + 0 = omega arith in e)
offered_more q p k (x ∷ rs) r =
    let e : k + 1 + length rs ≡ k + suc (length rs) = omega arith in
    ap (λ (l : List ℕ). cond (is_offered q x) (opened_number p k ∷ l) l)
    (offered_more q p (k + 1) rs r ∙ ap (λ (n : ℕ). offered_from q p (k + 1) rs ++ cond (is_offered q r) (opened_number p n ∷ []) []) e)
    ∙ further (is_offered q x) (opened_number p k) (offered_from q p (k + 1) rs) (cond (is_offered q r) (opened_number p (k + suc (length rs)) ∷ []) [])

push_last : (rs : List Request) (r : Request) → slice_get (rs ++ r ∷ []) (length rs) ≡ Some r
push_last [] r = refl
push_last (x ∷ rs) r = push_last rs r

push_other : (rs : List Request) (r : Request) (j : ℕ) → (j ≡ length rs → ⊥) → slice_get (rs ++ r ∷ []) j ≡ slice_get rs j
push_other [] r zero ne = absurd (ne refl)
push_other [] r (suc j) ne = refl
push_other (x ∷ rs) r zero ne = refl
push_other (x ∷ rs) r (suc j) ne = push_other rs r j (λ e. ne (ap suc e))

-- ---- the first one that is offered is accepted

-- the request is offered to nobody once it is accepted
accepted_offered : (q y : ℕ) (r : Request) → is_offered q (accepted_as y r) ≡ false
accepted_offered q y r = by (r.to == q)
  where
    by : (b : Bool) → (b && false) ≡ false
    by true = refl
    by false = refl

-- to which party it was
offered_to : (q : ℕ) (r : Request) → is_offered q r ≡ true → r.to ≡ q
offered_to q r h = eqb-true r.to q (and_parts (r.to == q) (not (is_some r.second)) h).0

-- no offer
pub none_offered : (q p k : ℕ) (rs : List Request) → first_offer q rs ≡ None → offered_from q p k rs ≡ []
none_offered q p k [] h = refl
none_offered q p k (r ∷ rs) h = by (is_offered q r) (first_offer q rs) refl h (none_offered q p (k + 1) rs)
  where
    by : (b : Bool) (o : Option ℕ) → first_offer q rs ≡ o → cond b (Some 0) (option_map (λ n. suc n) o) ≡ None → (first_offer q rs ≡ None → offered_from q p (k + 1) rs ≡ []) → cond b (opened_number p k ∷ offered_from q p (k + 1) rs) (offered_from q p (k + 1) rs) ≡ []
    by true o is e rec = absurd (cc e)
    by false None is e rec = rec is
    by false (Some n) is e rec = absurd (cc e)

-- the first offer, and then the others
pub first_offered : (q p k : ℕ) (rs : List Request) (n y : ℕ) → first_offer q rs ≡ Some n →
    offered_from q p k rs ≡ opened_number p (k + n) ∷ offered_from q p k (altered_list rs n (accepted_as y))
first_offered q p k [] n y h = absurd (cc h)
first_offered q p k (r ∷ rs) n y h = by (is_offered q r) refl (λ m. first_offered q p (k + 1) rs m y)
  where
    here : (m : ℕ) → 0 ≡ m → is_offered q r ≡ true →
        cond true (opened_number p k ∷ offered_from q p (k + 1) rs) (offered_from q p (k + 1) rs) ≡ opened_number p (k + m) ∷ offered_from q p k (altered_list (r ∷ rs) m (accepted_as y))
    here zero e it =
        let s : k ≡ k + 0 = omega arith in
        ap (λ (t : ℕ). opened_number p t ∷ offered_from q p (k + 1) rs) s
        ∙ ap (λ (b : Bool). opened_number p (k + 0) ∷ cond b (opened_number p k ∷ offered_from q p (k + 1) rs) (offered_from q p (k + 1) rs)) (sym (accepted_offered q y r))
    here (suc m) e it = absurd (omega (arith, e))

    later : (m : ℕ) → (j : ℕ) × (first_offer q rs ≡ Some j) × (m ≡ suc j) → is_offered q r ≡ false → ((m : ℕ) → first_offer q rs ≡ Some m → offered_from q p (k + 1) rs ≡ opened_number p (k + 1 + m) ∷ offered_from q p (k + 1) (altered_list rs m (accepted_as y))) →
        offered_from q p (k + 1) rs ≡ opened_number p (k + m) ∷ offered_from q p k (altered_list (r ∷ rs) m (accepted_as y))
    later zero j it rec = absurd (omega (arith, j.2))
    later (suc m) j it rec =
        let same : j.0 ≡ m = omega (arith, j.2) in
        let s : k + 1 + m ≡ k + suc m = omega arith in
        rec m (j.1 ∙ ap Some same)
        ∙ ap (λ (t : ℕ). opened_number p t ∷ offered_from q p (k + 1) (altered_list rs m (accepted_as y))) s
        ∙ ap (λ (b : Bool). opened_number p (k + suc m) ∷ cond b (opened_number p k ∷ offered_from q p (k + 1) (altered_list rs m (accepted_as y))) (offered_from q p (k + 1) (altered_list rs m (accepted_as y)))) (sym it)

    by : (b : Bool) → is_offered q r ≡ b → ((m : ℕ) → first_offer q rs ≡ Some m → offered_from q p (k + 1) rs ≡ opened_number p (k + 1 + m) ∷ offered_from q p (k + 1) (altered_list rs m (accepted_as y))) → cond (is_offered q r) (opened_number p k ∷ offered_from q p (k + 1) rs) (offered_from q p (k + 1) rs) ≡ opened_number p (k + n) ∷ offered_from q p k (altered_list (r ∷ rs) n (accepted_as y))
    by true it rec =
        let f : Some 0 ≡ Some n = sym (ap (λ (b : Bool). cond b (Some 0) (option_map (λ t. suc t) (first_offer q rs))) it) ∙ h in
        ap (λ (b : Bool). cond b (opened_number p k ∷ offered_from q p (k + 1) rs) (offered_from q p (k + 1) rs)) it ∙ here n (cc f) it
    by false it rec =
        let f : option_map (λ t. suc t) (first_offer q rs) ≡ Some n = sym (ap (λ (b : Bool). cond b (Some 0) (option_map (λ t. suc t) (first_offer q rs))) it) ∙ h in
        ap (λ (b : Bool). cond b (opened_number p k ∷ offered_from q p (k + 1) rs) (offered_from q p (k + 1) rs)) it ∙ later n (one_further (first_offer q rs) n f) it rec

-- what other parties are offered stays
pub others_offered : (t q p k : ℕ) (rs : List Request) (n y : ℕ) → first_offer q rs ≡ Some n → (t == q) ≡ false → offered_from t p k (altered_list rs n (accepted_as y)) ≡ offered_from t p k rs
others_offered t q p k [] n y h ne = absurd (cc h)
others_offered t q p k (r ∷ rs) n y h ne = by (is_offered q r) refl (λ m j. others_offered t q p (k + 1) rs m y j ne)
  where
    other : is_offered q r ≡ true → is_offered t r ≡ false
    other it = and_left (r.to == t) (not (is_some r.second)) (false_from_ne_true (r.to == t) (λ e. both_ways (t == q) ne (eq-eqb t q (sym (eqb-true r.to t e) ∙ offered_to q r it))))

    here : (m : ℕ) → 0 ≡ m → is_offered q r ≡ true → offered_from t p k (altered_list (r ∷ rs) m (accepted_as y)) ≡ offered_from t p k (r ∷ rs)
    here zero e it =
        ap (λ (b : Bool). cond b (opened_number p k ∷ offered_from t p (k + 1) rs) (offered_from t p (k + 1) rs)) (accepted_offered t y r ∙ sym (other it))
    here (suc m) e it = absurd (omega (arith, e))

    later : (m : ℕ) → (j : ℕ) × (first_offer q rs ≡ Some j) × (m ≡ suc j) → ((m : ℕ) → first_offer q rs ≡ Some m → offered_from t p (k + 1) (altered_list rs m (accepted_as y)) ≡ offered_from t p (k + 1) rs) → offered_from t p k (altered_list (r ∷ rs) m (accepted_as y)) ≡ offered_from t p k (r ∷ rs)
    later zero j rec = absurd (omega (arith, j.2))
    later (suc m) j rec =
        let same : j.0 ≡ m = omega (arith, j.2) in
        ap (λ (l : List ℕ). cond (is_offered t r) (opened_number p k ∷ l) l) (rec m (j.1 ∙ ap Some same))

    by : (b : Bool) → is_offered q r ≡ b → ((m : ℕ) → first_offer q rs ≡ Some m → offered_from t p (k + 1) (altered_list rs m (accepted_as y)) ≡ offered_from t p (k + 1) rs) → offered_from t p k (altered_list (r ∷ rs) n (accepted_as y)) ≡ offered_from t p k (r ∷ rs)
    by true it rec =
        let f : Some 0 ≡ Some n = sym (ap (λ (b : Bool). cond b (Some 0) (option_map (λ t. suc t) (first_offer q rs))) it) ∙ h in
        here n (cc f) it
    by false it rec =
        let f : option_map (λ t. suc t) (first_offer q rs) ≡ Some n = sym (ap (λ (b : Bool). cond b (Some 0) (option_map (λ t. suc t) (first_offer q rs))) it) ∙ h in
        later n (one_further (first_offer q rs) n f) rec

-- ---- which ends are offered

-- the request of an opened session
pub request_at : (all : Requests) (p k : ℕ) → k < limit_of_requests → request_of all (opened_number p k) ≡ slice_get (all p) k
request_at all p k few =
    let o : opener_of (opened_number p k) ≡ p = opener_of_opened p k few in
    let n : opened_number p k - opened_number p 0 ≡ k = omega arith in
    ap (λ (t : ℕ). slice_get (all t) (opened_number p k - opened_number t 0)) o ∙ ap (slice_get (all p)) n

-- where the request is there and was not accepted, its second end is offered
pub end_offered : (all : Requests) (p k : ℕ) (r : Request) → k < limit_of_requests → slice_get (all p) k ≡ Some r → r.second ≡ None → is_offered_end all (offered_end (opened_number p k)) ≡ true
end_offered all p k r few there none =
    and_from (nat_le first_opened (opened_number p k) && true) (is_unaccepted (request_of all (opened_number p k)))
    (and_from (nat_le first_opened (opened_number p k)) true (le-leb first_opened (opened_number p k) (omega arith)) refl)
    (ap is_unaccepted (request_at all p k few ∙ there) ∙ ap (λ (o : Option ℕ). is_none o) none)

-- and else it is not
pub end_accepted : (all : Requests) (p k : ℕ) (o : Option Request) → k < limit_of_requests → slice_get (all p) k ≡ o → is_unaccepted o ≡ false → is_offered_end all (offered_end (opened_number p k)) ≡ false
end_accepted all p k o few there none = by (nat_le first_opened (opened_number p k) && true)
  where
    last : is_unaccepted (request_of all (opened_number p k)) ≡ false
    last = ap is_unaccepted (request_at all p k few ∙ there) ∙ none

    by : (b : Bool) → (b && is_unaccepted (request_of all (opened_number p k))) ≡ false
    by true = last
    by false = refl

-- the first end never is
pub first_unoffered : (all : Requests) (e : EndId) → (e.side == 1) ≡ false → is_offered_end all e ≡ false
first_unoffered all e h = by (nat_le first_opened e.sess) (e.side == 1) h
  where
    by : (b c : Bool) → c ≡ false → (b && c && is_unaccepted (request_of all e.sess)) ≡ false
    by true true h = absurd (cc h)
    by true false h = refl
    by false true h = refl
    by false false h = refl

-- what is offered is the second end of a session that a party opened, with its request
pub record Opened (all : Requests) (e : EndId) : Type 0 where
  pub party : ℕ
  pub after : ℕ
  pub request : Request
  pub there : slice_get (all party) after ≡ Some request
  pub open_still : request.second ≡ None
  pub sess : e.sess ≡ opened_number party after
  pub side : e.side ≡ 1

unaccepted_is : (o : Option Request) → is_unaccepted o ≡ true → (r : Request) × (o ≡ Some r) × (r.second ≡ None)
unaccepted_is None h = absurd (cc h)
unaccepted_is (Some r) h = (r, refl, by r.second h)
  where
    by : (o : Option ℕ) → is_none o ≡ true → o ≡ None
    by None h = refl
    by (Some n) h = absurd (cc h)

pub offered_is : (all : Requests) (e : EndId) → is_offered_end all e ≡ true → Opened all e
offered_is all e h =
    let parts = and_parts (nat_le first_opened e.sess && (e.side == 1)) (is_unaccepted (request_of all e.sess)) h in
    let parts' = and_parts (nat_le first_opened e.sess) (e.side == 1) parts.0 in
    let low : first_opened ≤ e.sess = leb-true first_opened e.sess parts'.0 in
    let r = unaccepted_is (request_of all e.sess) parts.1 in
    record {
      party = opener_of e.sess;
      after = e.sess - opened_number (opener_of e.sess) 0;
      request = r.0;
      there = r.1;
      open_still = r.2;
      sess = omega (arith, low);
      side = eqb-true e.side 1 parts'.1;
    }

-- other requests of a party leave an end as it is
module _ (all new : Requests) (p k : ℕ) (few : k < limit_of_requests) (others : (a : ℕ) → (a == p) ≡ false → new a ≡ all a) (rest : (j : ℕ) → (j ≡ k → ⊥) → slice_get (new p) j ≡ slice_get (all p) j) where
  same_request : (s : ℕ) → first_opened ≤ s → (s ≡ opened_number p k → ⊥) → request_of new s ≡ request_of all s
  same_request s low ne =
      elim (cases_Bool (opener_of s == p)) [
        | inl own ↦
            let it : opener_of s ≡ p = eqb-true (opener_of s) p own in
            let away : s - opened_number (opener_of s) 0 ≡ k → ⊥ = λ e. ne (omega (arith, low, it, e)) in
            ap (λ (t : ℕ). slice_get (new t) (s - opened_number (opener_of s) 0)) it ∙ rest (s - opened_number (opener_of s) 0) away
            ∙ ap (λ (t : ℕ). slice_get (all t) (s - opened_number (opener_of s) 0)) (sym it)
        | inr other ↦ ap (λ (l : List Request). slice_get l (s - opened_number (opener_of s) 0)) (others (opener_of s) other)
      ]

  pub ends_stay : (d : EndId) → is_same_end d (offered_end (opened_number p k)) ≡ false → is_offered_end new d ≡ is_offered_end all d
  ends_stay d apart = by (nat_le first_opened d.sess) (d.side == 1) refl refl
    where
      by : (b c : Bool) → nat_le first_opened d.sess ≡ b → (d.side == 1) ≡ c → (b && c && is_unaccepted (request_of new d.sess)) ≡ (b && c && is_unaccepted (request_of all d.sess))
      by true true low far =
          ap is_unaccepted (same_request d.sess (leb-true first_opened d.sess low) (λ e.
          both_ways (is_same_end d (offered_end (opened_number p k))) apart (and_from (d.sess == opened_number p k) (d.side == 1) (eq-eqb d.sess (opened_number p k) e) far)))
      by true false low far = refl
      by false true low far = refl
      by false false low far = refl

-- ---- after an opening

pub pushed_others : (all : Requests) (p : ℕ) (r : Request) (a : ℕ) → (a == p) ≡ false → after_opening p (requests r) all a ≡ all a
pushed_others all p r a h = ap (λ (b : Bool). cond b (all a ++ r ∷ []) (all a)) h

pub pushed_own : (all : Requests) (p : ℕ) (r : Request) → after_opening p (requests r) all p ≡ all p ++ r ∷ []
pushed_own all p r = ap (λ (b : Bool). cond b (all p ++ r ∷ []) (all p)) (eq-eqb p p refl)

pub accepted_others : (all : Requests) (p q k y : ℕ) (a : ℕ) → (a == q) ≡ false → after_opening p (accepts q k y) all a ≡ all a
accepted_others all p q k y a h = ap (λ (b : Bool). cond b (altered_list (all a) k (accepted_as y)) (all a)) h

pub accepted_own : (all : Requests) (p q k y : ℕ) → after_opening p (accepts q k y) all q ≡ altered_list (all q) k (accepted_as y)
accepted_own all p q k y = ap (λ (b : Bool). cond b (altered_list (all q) k (accepted_as y)) (all q)) (eq-eqb q q refl)

module _ (all : Requests) (p : ℕ) (r : Request) (none : r.second ≡ None) (few : length (all p) < limit_of_requests) where
  -- a request makes its second end an offered one, and no other
  pub requested_offered : is_offered_end (after_opening p (requests r) all) (offered_end (opened_number p (length (all p)))) ≡ true
  requested_offered = end_offered (after_opening p (requests r) all) p (length (all p)) r few (ap (λ l. slice_get l (length (all p))) (pushed_own all p r) ∙ push_last (all p) r) none

  pub requested_else : (d : EndId) → is_same_end d (offered_end (opened_number p (length (all p)))) ≡ false → is_offered_end (after_opening p (requests r) all) d ≡ is_offered_end all d
  requested_else =
      ends_stay all (after_opening p (requests r) all) p (length (all p)) few (pushed_others all p r)
      (λ j ne. ap (λ l. slice_get l j) (pushed_own all p r) ∙ push_other (all p) r j ne)

  -- and its session is the last one that is offered there
  pub requested_offers : (from to : ℕ) → offered_from to from 0 (after_opening p (requests r) all from)
      ≡ cond ((from == p) && (to == r.to)) (offered_from r.to p 0 (all p) ++ opened_number p (length (all p)) ∷ []) (offered_from to from 0 (all from))
  requested_offers from to =
      elim (cases_Bool (from == p)) [
        | inl own ↦
            elim (cases_Bool (to == r.to)) [
              | inl here ↦
                  let f : from ≡ p = eqb-true from p own in
                  let t : to ≡ r.to = eqb-true to r.to here in
                  let off : is_offered r.to r ≡ true = and_from (r.to == r.to) (not (is_some r.second)) (eq-eqb r.to r.to refl) (ap (λ (o : Option ℕ). not (is_some o)) none) in
                  ap (λ (n : ℕ). offered_from to n 0 (after_opening p (requests r) all n)) f ∙ ap (λ (n : ℕ). offered_from n p 0 (after_opening p (requests r) all p)) t
                  ∙ ap (offered_from r.to p 0) (pushed_own all p r)
                  ∙ offered_more r.to p 0 (all p) r
                  ∙ ap (λ (b : Bool). offered_from r.to p 0 (all p) ++ cond b (opened_number p (0 + length (all p)) ∷ []) []) off
                  ∙ ap (λ (n : ℕ). offered_from r.to p 0 (all p) ++ opened_number p n ∷ []) (let e : 0 + length (all p) ≡ length (all p) = omega arith in e)
                  ∙ ap (λ (b : Bool). cond b (offered_from r.to p 0 (all p) ++ opened_number p (length (all p)) ∷ []) (offered_from to from 0 (all from))) (sym (and_from (from == p) (to == r.to) own here))
              | inr away ↦
                  let f : from ≡ p = eqb-true from p own in
                  let off : is_offered to r ≡ false = and_left (r.to == to) (not (is_some r.second)) (false_from_ne_true (r.to == to) (λ e. both_ways (to == r.to) away (eq-eqb to r.to (sym (eqb-true r.to to e))))) in
                  ap (λ (n : ℕ). offered_from to n 0 (after_opening p (requests r) all n)) f
                  ∙ ap (offered_from to p 0) (pushed_own all p r)
                  ∙ offered_more to p 0 (all p) r
                  ∙ ap (λ (b : Bool). offered_from to p 0 (all p) ++ cond b (opened_number p (0 + length (all p)) ∷ []) []) off
                  ∙ nothing_more (offered_from to p 0 (all p))
                  ∙ ap (λ (n : ℕ). offered_from to n 0 (all n)) (sym f)
                  ∙ ap (λ (b : Bool). cond b (offered_from r.to p 0 (all p) ++ opened_number p (length (all p)) ∷ []) (offered_from to from 0 (all from))) (sym (not_both (from == p) (to == r.to) away))
            ]
        | inr other ↦
            ap (offered_from to from 0) (pushed_others all p r from other)
            ∙ ap (λ (b : Bool). cond b (offered_from r.to p 0 (all p) ++ opened_number p (length (all p)) ∷ []) (offered_from to from 0 (all from))) (sym (and_left (from == p) (to == r.to) other))
      ]
    where
      nothing_more : (l : List ℕ) → l ++ [] ≡ l
      nothing_more [] = refl
      nothing_more (x ∷ l) = ap (λ (t : List ℕ). x ∷ t) (nothing_more l)

      not_both : (b c : Bool) → c ≡ false → (b && c) ≡ false
      not_both true c h = h
      not_both false c h = refl

  -- it is counted
  pub requested_counts : (q : ℕ) → length (after_opening p (requests r) all q) ≡ cond (q == p) (length (all q) + 1) (length (all q))
  requested_counts q = by (q == p)
    where
      pushed : (l : List Request) → length (l ++ r ∷ []) ≡ length l + 1
      pushed [] = refl
      pushed (x ∷ l) = let e : length (l ++ r ∷ []) ≡ length l + 1 = pushed l in omega (arith, e)

      by : (b : Bool) → length (cond b (all q ++ r ∷ []) (all q)) ≡ cond b (length (all q) + 1) (length (all q))
      by true = pushed (all q)
      by false = refl

module _ (all : Requests) (p q k y : ℕ) (first : first_offer p (all q) ≡ Some k) (few : length (all q) ≤ limit_of_requests) where
  offer : Offer p k (all q)
  offer = first_is_offer p (all q) k first

  pub offer_below : k < limit_of_requests
  offer_below = omega (arith, few, below_by_get (all q) k offer.0 offer.1)

  -- an accept makes the second end no longer an offered one
  pub accept_offered_not : is_offered_end (after_opening p (accepts q k y) all) (offered_end (opened_number q k)) ≡ false
  accept_offered_not =
      end_accepted (after_opening p (accepts q k y) all) q k (Some (accepted_as y offer.0)) offer_below
      (ap (λ l. slice_get l k) (accepted_own all p q k y) ∙ slice_get-altered (all q) k (accepted_as y) ∙ ap (option_map (accepted_as y)) offer.1) refl

  pub accept_else : (d : EndId) → is_same_end d (offered_end (opened_number q k)) ≡ false → is_offered_end (after_opening p (accepts q k y) all) d ≡ is_offered_end all d
  accept_else =
      ends_stay all (after_opening p (accepts q k y) all) q k offer_below (accepted_others all p q k y)
      (λ j ne. ap (λ l. slice_get l j) (accepted_own all p q k y) ∙ slice_get-altered_other (all q) k j (accepted_as y) (λ e. ne (sym e)))

  -- its session was the first one that was offered there, and the later ones still are
  pub accept_first : offered_from p q 0 (all q) ≡ opened_number q k ∷ offered_from p q 0 (after_opening p (accepts q k y) all q)
  accept_first =
      first_offered p q 0 (all q) k y first
      ∙ ap (λ (n : ℕ). opened_number q n ∷ offered_from p q 0 (altered_list (all q) k (accepted_as y))) (let e : 0 + k ≡ k = omega arith in e)
      ∙ ap (λ l. opened_number q k ∷ offered_from p q 0 l) (sym (accepted_own all p q k y))

  pub accept_offers : (from to : ℕ) → offered_from to from 0 (after_opening p (accepts q k y) all from)
      ≡ cond ((from == q) && (to == p)) (offered_from p q 0 (after_opening p (accepts q k y) all q)) (offered_from to from 0 (all from))
  accept_offers from to =
      elim (cases_Bool (from == q)) [
        | inl own ↦
            let f : from ≡ q = eqb-true from q own in
            elim (cases_Bool (to == p)) [
              | inl here ↦
                  ap (λ (n : ℕ). offered_from to n 0 (after_opening p (accepts q k y) all n)) f ∙ ap (λ (n : ℕ). offered_from n q 0 (after_opening p (accepts q k y) all q)) (eqb-true to p here)
                  ∙ ap (λ (b : Bool). cond b (offered_from p q 0 (after_opening p (accepts q k y) all q)) (offered_from to from 0 (all from))) (sym (and_from (from == q) (to == p) own here))
              | inr away ↦
                  ap (λ (n : ℕ). offered_from to n 0 (after_opening p (accepts q k y) all n)) f
                  ∙ ap (offered_from to q 0) (accepted_own all p q k y)
                  ∙ others_offered to p q 0 (all q) k y first away
                  ∙ ap (λ (n : ℕ). offered_from to n 0 (all n)) (sym f)
                  ∙ ap (λ (b : Bool). cond b (offered_from p q 0 (after_opening p (accepts q k y) all q)) (offered_from to from 0 (all from))) (sym (not_both (from == q) (to == p) away))
            ]
        | inr other ↦
            ap (offered_from to from 0) (accepted_others all p q k y from other)
            ∙ ap (λ (b : Bool). cond b (offered_from p q 0 (after_opening p (accepts q k y) all q)) (offered_from to from 0 (all from))) (sym (and_left (from == q) (to == p) other))
      ]
    where
      not_both : (b c : Bool) → c ≡ false → (b && c) ≡ false
      not_both true c h = h
      not_both false c h = refl

  -- nobody requested
  pub accept_counts : (a : ℕ) → length (after_opening p (accepts q k y) all a) ≡ length (all a)
  accept_counts a = by (a == q)
    where
      by : (b : Bool) → length (cond b (altered_list (all a) k (accepted_as y)) (all a)) ≡ length (all a)
      by true = length-altered (all a) k (accepted_as y)
      by false = refl
