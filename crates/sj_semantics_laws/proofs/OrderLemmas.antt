-- Sessions are accepted in the order in which they were requested.
use Rattle.std.proofs.Common.{◌≡◌, ℕ, zero, suc, ◌<◌, ◌==◌, nat_lt, not, Bool, true, false, cond, List, [], ◌∷◌, ◌++◌, length, slice_get, Option, Some, None, is_some, option_map, refl, ap, sym, ◌∙◌, subst, arith, inl, inr}
use Rattle.std.specs.Bool.{⊤}
use Rattle.std.proofs.lemmas.Bool.{cases_Bool, cases_eq, and_from, eq-eqb, true≢false}
use Rattle.sj_lang.specs.FileAt.{FileAt, body_named}
use Rattle.sj_semantics.specs.declared.Want.{Want}
use Rattle.sj_semantics.specs.declared.Want.TheVariants as wants
use Rattle.sj_semantics.specs.Ends.{end_at, next_for, limit_of_hops}
use Rattle.sj_semantics.specs.Program.{Program}
use Rattle.sj_semantics.specs.Requests.{Request, limit_of_requests, opened_number, is_offered, first_offer, accepted_as, Opening, no_opening, requests, accepts, requests_after}
use Rattle.sj_semantics.specs.Run.{IsRun, after_acts}
use Rattle.sj_semantics.specs.Steps.{sent_of}
use Rattle.sj_semantics.specs.Uses.{sends, delegates, altered_list}
use Rattle.sj_semantics.specs.World.{World, Change, plain_change, session_message, change_by_taking, change_by_opening, change_by_accepting, change_by, act_of, start_of}
use Rattle.sj_semantics_laws.specs.Runs.{AcceptedInOrder}
use Rattle.sj_semantics_laws.proofs.AlteredLemmas.{slice_get-altered, slice_get-altered_other}
use Rattle.sj_semantics_laws.proofs.ChangeLemmas.{Rests, rests_on}
use Rattle.sj_semantics_laws.proofs.CommuteLemmas.{doing_of}
use Rattle.sj_semantics_laws.proofs.RunLemmas.{between}
use Rattle.sj_semantics_laws.proofs.ToComeLemmas.{first_is_offer, one_further, get_pushed, below_by_get}

-- ---- an opening makes a new request, or accepts the first one that is offered

abbrev IsFirst : World → ℕ → Opening → Type 0
IsFirst w p no_opening = ⊤
IsFirst w p (requests r) = r.second ≡ None
IsFirst w p (accepts q k y) = first_offer p (w.requests q) ≡ Some k

abbrev IsFirstIf : World → ℕ → Option Change → Type 0
IsFirstIf w p None = ⊤
IsFirstIf w p (Some c) = IsFirst w p c.opening

option_first : {X : Type 0} (w : World) (p : ℕ) (f : X → Change) (o : Option X) → ((x : X) → o ≡ Some x → IsFirst w p (f x).opening) → IsFirstIf w p (option_map f o)
option_first w p f None h = tt
option_first w p f (Some x) h = h x refl

cond_first : (w : World) (p : ℕ) (b : Bool) (c : Change) → IsFirst w p c.opening → IsFirstIf w p (cond b (Some c) None)
cond_first w p true c h = h
cond_first w p false c h = tt

by_first : (w : World) (p : ℕ) (g : Program) (want : Want) → IsFirstIf w p (change_by w p g want)
by_first w p g wants.Ended = tt
by_first w p g wants.Local = tt
by_first w p g (wants.Send e m) = tt
by_first w p g (wants.Delegate e y) = cond_first w p (nat_lt (end_at w.sessions y).hops limit_of_hops) (plain_change (sent_of g) ((y, delegates) ∷ (e, sends (session_message y p)) ∷ [])) tt
by_first w p g (wants.Take e a) = option_first w p (change_by_taking w.protocols g e a) (next_for w.sessions e) (λ x h. tt)
by_first w p g (wants.Close e) = tt
by_first w p g (wants.Request n q) = cond_first w p (nat_lt (length (w.requests p)) limit_of_requests) (change_by_opening g (opened_number p (length (w.requests p))) (body_named w.protocols n) q) refl
by_first w p g (wants.Accept n q) = option_first w p (change_by_accepting g q (body_named w.protocols n)) (first_offer p (w.requests q)) (λ k h. h)

opening_is_first : (w : World) (p : ℕ) (g : Program) (c : Change) → Rests w p g c → IsFirst w p c.opening
opening_is_first w p g c r = subst (IsFirstIf w p) r.by_it (by_first w p g r.want)

-- ---- requests stay in order

push_last : (rs : List Request) (n : Request) → slice_get (rs ++ n ∷ []) (length rs) ≡ Some n
push_last [] n = refl
push_last (r ∷ rs) n = push_last rs n

pushed_order : (rs : List Request) (n : Request) → n.second ≡ None → AcceptedInOrder rs → AcceptedInOrder (rs ++ n ∷ [])
pushed_order rs n new order = λ i j r s lt hi hj same none.
    elim (get_pushed rs n j s hj) [
      | inl e ↦ let it : s ≡ n = (let both : Some s ≡ Some n = sym hj ∙ ap (slice_get (rs ++ n ∷ [])) e ∙ push_last rs n in cc) in ap (λ (t : Request). t.second) it ∙ new
      | inr old ↦
          elim (get_pushed rs n i r hi) [
            | inl e ↦ absurd (omega (arith, e, lt, below_by_get rs j s old))
            | inr older ↦ order i j r s lt older old same none
          ]
    ]

-- none before the first one is offered
first_is_least : (p : ℕ) (rs : List Request) (k i : ℕ) (r : Request) → first_offer p rs ≡ Some k → i < k → slice_get rs i ≡ Some r → is_offered p r ≡ false
first_is_least p [] k i r h lt there = cc
first_is_least p (x ∷ rs) k i r h lt there =
    elim (cases_Bool (is_offered p x)) [
      | inl it ↦
          let at_head : 0 ≡ k = (let f : Some 0 ≡ Some k = sym (ap (λ (b : Bool). cond b (Some 0) (option_map (λ n. suc n) (first_offer p rs))) it) ∙ h in cc) in
          absurd (omega (arith, lt, at_head))
      | inr other ↦ behind i lt there other (one_further (first_offer p rs) k (sym (ap (λ (b : Bool). cond b (Some 0) (option_map (λ n. suc n) (first_offer p rs))) other) ∙ h)) (λ j n less got on. first_is_least p rs j n r on less got)
    ]
  where
    behind : (i : ℕ) → i < k → slice_get (x ∷ rs) i ≡ Some r → is_offered p x ≡ false → (j : ℕ) × (first_offer p rs ≡ Some j) × (k ≡ suc j)
        → ((j n : ℕ) → n < j → slice_get rs n ≡ Some r → first_offer p rs ≡ Some j → is_offered p r ≡ false) → is_offered p r ≡ false
    behind zero lt there other on rec = let it : x ≡ r = cc in ap (is_offered p) (sym it) ∙ other
    behind (suc n) lt there other on rec = rec on.0 n (omega (arith, lt, on.2)) there on.1

offered_by : (p : ℕ) (r : Request) → r.to ≡ p → r.second ≡ None → is_offered p r ≡ true
offered_by p r to none = and_from _ _ (eq-eqb r.to p to) (ap (λ (o : Option ℕ). not (is_some o)) none)

accepted_parts : (y : ℕ) (o : Option Request) (r : Request) → option_map (accepted_as y) o ≡ Some r → (x : Request) × (o ≡ Some x) × (accepted_as y x ≡ r)
accepted_parts y None r h = cc
accepted_parts y (Some x) r h = (x, refl, cc)

accepted_order : (p k y : ℕ) (rs : List Request) → first_offer p rs ≡ Some k → AcceptedInOrder rs → AcceptedInOrder (altered_list rs k (accepted_as y))
accepted_order p k y rs first order = λ i j r s lt hi hj same none.
    elim (cases_eq k i) [
      | inl at_i ↦
          let a = accepted_parts y (slice_get rs k) r (sym (slice_get-altered rs k (accepted_as y)) ∙ ap (slice_get (altered_list rs k (accepted_as y))) at_i ∙ hi) in
          let both : Some y ≡ None = ap (λ (t : Request). t.second) a.2 ∙ none in cc
      | inr not_i ↦
          let older : slice_get rs i ≡ Some r = sym (slice_get-altered_other rs k i (accepted_as y) not_i) ∙ hi in
          elim (cases_eq k j) [
            | inl at_j ↦
                let a = accepted_parts y (slice_get rs k) s (sym (slice_get-altered rs k (accepted_as y)) ∙ ap (slice_get (altered_list rs k (accepted_as y))) at_j ∙ hj) in
                let o = first_is_offer p rs k first in
                let it : a.0 ≡ o.0 = (let both : Some a.0 ≡ Some o.0 = sym a.1 ∙ o.1 in cc) in
                let to : r.to ≡ p = same ∙ sym (ap (λ (t : Request). t.to) a.2) ∙ ap (λ (t : Request). t.to) it ∙ o.2 in
                absurd (true≢false (sym (offered_by p r to none) ∙ first_is_least p rs k i r first (omega (arith, lt, at_j)) older))
            | inr not_j ↦ order i j r s lt older (sym (slice_get-altered_other rs k j (accepted_as y) not_j) ∙ hj) same none
          ]
    ]

order_after : (w : World) (p : ℕ) (o : Opening) (a : ℕ) → IsFirst w p o → AcceptedInOrder (w.requests a) → AcceptedInOrder (requests_after p o a (w.requests a))
order_after w p no_opening a first order = order
order_after w p (requests r) a first order = by_test (a == p)
  where
    by_test : (b : Bool) → AcceptedInOrder (cond b (w.requests a ++ r ∷ []) (w.requests a))
    by_test true = pushed_order (w.requests a) r first order
    by_test false = order
order_after w p (accepts q k y) a first order =
    elim (cases_eq a q) [
      | inl it ↦
          subst (λ (b : Bool). AcceptedInOrder (cond b (altered_list (w.requests a) k (accepted_as y)) (w.requests a))) (sym (eq-eqb a q it))
          (accepted_order p k y (w.requests a) (ap (λ (n : ℕ). first_offer p (w.requests n)) it ∙ first) order)
      | inr other ↦ not_there (a == q) (λ t. other (Rattle.std.proofs.lemmas.Bool.eqb-true a q t))
    ]
  where
    not_there : (b : Bool) → (b ≡ true → ⊥) → AcceptedInOrder (cond b (altered_list (w.requests a) k (accepted_as y)) (w.requests a))
    not_there true ne = absurd (ne refl)
    not_there false ne = order

order_kept : (w v : World) (ps : List ℕ) → ((a : ℕ) → AcceptedInOrder (w.requests a)) → after_acts w ps ≡ Some v → (a : ℕ) → AcceptedInOrder (v.requests a)
order_kept w v [] order h a = subst (λ (t : World). AcceptedInOrder (t.requests a)) (let it : w ≡ v = cc in it) (order a)
order_kept w v (p ∷ ps) order h a =
    let m = between (λ x. after_acts x ps) (act_of w p) v h in
    let d = doing_of w p m.world m.before in
    order_kept m.world v ps
    (λ b. subst (λ (t : World). AcceptedInOrder (t.requests b)) d.result (order_after w p d.change.opening b (opening_is_first w p d.program d.change (rests_on w p d.program d.change d.made)) (order b)))
    m.afterwards a

pub run_order : (file : FileAt) (ps : List ℕ) (w : World) (p : ℕ) → IsRun file ps w → AcceptedInOrder (w.requests p)
run_order file ps w p run = order_kept (start_of file) w ps (λ a i j r s lt hi hj same none. cc) run p
