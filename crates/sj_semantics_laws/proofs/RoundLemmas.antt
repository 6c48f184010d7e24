-- A round of all parties: somebody acts, or it changes nothing.
use Rattle.std.proofs.Common.{◌≡◌, ℕ, zero, suc, ◌+◌, ◌-◌, ◌≤◌, ◌<◌, nat_lt, Bool, true, false, cond, [], ◌∷◌, length, Option, Some, None, option_map, option_and_then, sum_by, refl, ap, sym, ◌∙◌, arith, subst, inl, inr}
use Rattle.std.proofs.lemmas.Bool.{cases_lt, cases_eq, ltb-true}
use Rattle.std.proofs.lemmas.Option.{slice_get_past}
use Rattle.sj_semantics.specs.declared.Want.{Want}
use Rattle.sj_semantics.specs.declared.Want.TheVariants as wants
use Rattle.sj_semantics.specs.Program.{Program}
use Rattle.sj_semantics.specs.Steps.{local_of, sent_of, closed_of}
use Rattle.sj_semantics.specs.World.{World, Change, plain_change, session_message, change_by_taking, change_by_opening, change_by_accepting, change_by, changed_world, act_of}
use Rattle.sj_semantics.specs.Requests.{first_offer, opened_number}
use Rattle.sj_lang.specs.FileAt.{body_named}
use Rattle.sj_semantics.specs.Ends.{end_at, next_for}
use Rattle.sj_semantics.specs.Uses.{sends, delegates}
use Rattle.sj_semantics.specs.State.{IsSettled}
use Rattle.sj_semantics.specs.Run.{or_on, as_long_as_ready, turn_of_each}
use Rattle.sj_semantics_laws.proofs.AlteredLemmas.{sum_by-altered, length-altered}
use Rattle.sj_semantics_laws.proofs.ChangeLemmas.{rests_on}
use Rattle.sj_semantics_laws.proofs.CommuteLemmas.{Doing, doing_of}
use Rattle.sj_semantics_laws.proofs.RunLemmas.{Leads, leads_on, no_acts, leads_trans}

-- how many steps a party, and all of them, have left
abbrev pub left_of : Program → ℕ
left_of g = 10000 - g.steps

abbrev pub left_in : World → ℕ
left_in w = sum_by left_of w.parties

abbrev StepsOn : Program → Change → Type 0
StepsOn g c = c.program.steps ≡ g.steps + 1

cond_steps : (g : Program) (b : Bool) (c d : Change) → StepsOn g c → cond b (Some c) None ≡ Some d → StepsOn g d
cond_steps g true c d k h = subst (StepsOn g) (let it : c ≡ d = cc in it) k
cond_steps g false c d k h = cc

option_steps : {X : Type 0} (g : Program) (d : Change) (f : X → Change) (o : Option X) → ((x : X) → StepsOn g (f x)) → option_map f o ≡ Some d → StepsOn g d
option_steps g d f None on h = cc
option_steps g d f (Some x) on h = cond_steps g true (f x) d (on x) h

by_steps : (p : ℕ) (w : World) (g : Program) (d : Change) (want : Want) → change_by w p g want ≡ Some d → StepsOn g d
by_steps p w g d wants.Ended h = cc
by_steps p w g d wants.Local h = cond_steps g true (plain_change (local_of g) []) d refl h
by_steps p w g d (wants.Send x m) h = cond_steps g true (plain_change (sent_of g) ((x, sends m) ∷ [])) d refl h
by_steps p w g d (wants.Delegate x y) h = cond_steps g (nat_lt (end_at w.sessions y).hops 100) (plain_change (sent_of g) ((y, delegates) ∷ (x, sends (session_message y p)) ∷ [])) d refl h
by_steps p w g d (wants.Take x a) h = option_steps g d (change_by_taking w.protocols g x a) (next_for w.sessions x) (λ y. refl) h
by_steps p w g d (wants.Close x) h = cond_steps g true (plain_change (closed_of g) []) d refl h
by_steps p w g d (wants.Request n q) h = cond_steps g (nat_lt (length (w.requests p)) 100) (change_by_opening g (opened_number p (length (w.requests p))) (body_named w.protocols n) q) d refl h
by_steps p w g d (wants.Accept n q) h = option_steps g d (change_by_accepting g q (body_named w.protocols n)) (first_offer p (w.requests q)) (λ k. refl) h

-- each act leaves one step less
left_in-changed : (w v : World) (p : ℕ) → (a : Doing w p v) → left_in (changed_world w p a.change) + 1 ≡ left_in w
left_in-changed w v p a =
    let r = rests_on w p a.program a.change a.made in
    omega (arith, sum_by-altered left_of w.parties p (λ g. a.change.program) a.program a.there, by_steps p w a.program a.change r.want r.by_it, ltb-true a.program.steps 10000 r.steps_left)

pub left_in-act : (w v : World) (p : ℕ) → act_of w p ≡ Some v → left_in v + 1 ≡ left_in w
left_in-act w v p h = let a = doing_of w p v h in subst (λ (t : World). left_in t + 1 ≡ left_in w) a.result (left_in-changed w v p a)

pub length-act : (w v : World) (p : ℕ) → act_of w p ≡ Some v → length v.parties ≡ length w.parties
length-act w v p h = let a = doing_of w p v h in subst (λ (t : World). length t.parties ≡ length w.parties) a.result (length-altered w.parties p (λ g. a.change.program))

-- ---- a party's turn

-- what an act comes to
pub data Outcome (w : World) (p : ℕ) : Type 0 where
  no_act : act_of w p ≡ None → Outcome w p
  an_act : (u : World) → act_of w p ≡ Some u → Outcome w p

outcome_at : (w : World) (p : ℕ) (o : Option World) → act_of w p ≡ o → Outcome w p
outcome_at w p None h = no_act h
outcome_at w p (Some u) h = an_act u h

pub outcome_of : (w : World) (p : ℕ) → Outcome w p
outcome_of w p = outcome_at w p (act_of w p) refl

turn_none : (n p : ℕ) (w : World) → act_of w p ≡ None → as_long_as_ready n p w ≡ w
unfolding as_long_as_ready
turn_none zero p w h = refl
turn_none (suc n) p w h = ap (or_on (as_long_as_ready n p) w) h

turn_some : (n p : ℕ) (w u : World) → act_of w p ≡ Some u → as_long_as_ready (suc n) p w ≡ as_long_as_ready n p u
unfolding as_long_as_ready
turn_some n p w u h = ap (or_on (as_long_as_ready n p) w) h

turn_zero : (p : ℕ) (w : World) → as_long_as_ready zero p w ≡ w
unfolding as_long_as_ready
turn_zero p w = refl

turn_leads : (n p : ℕ) (w : World) → Leads w (as_long_as_ready n p w)
turn_leads zero p w = subst (Leads w) (sym (turn_zero p w)) (no_acts w)
turn_leads (suc n) p w =
    elim (outcome_of w p) [
      | no_act h ↦ subst (Leads w) (sym (turn_none (suc n) p w h)) (no_acts w)
      | an_act u h ↦ subst (Leads w) (sym (turn_some n p w u h)) (leads_on w u (as_long_as_ready n p u) p h (turn_leads n p u))
    ]

turn_left : (n p : ℕ) (w : World) → left_in (as_long_as_ready n p w) ≤ left_in w
turn_left zero p w = omega (arith, ap left_in (turn_zero p w))
turn_left (suc n) p w =
    elim (outcome_of w p) [
      | no_act h ↦ omega (arith, ap left_in (turn_none (suc n) p w h))
      | an_act u h ↦ omega (arith, ap left_in (turn_some n p w u h), turn_left n p u, left_in-act w u p h)
    ]

turn_length : (n p : ℕ) (w : World) → length (as_long_as_ready n p w).parties ≡ length w.parties
turn_length zero p w = ap (λ t. length t.parties) (turn_zero p w)
turn_length (suc n) p w =
    elim (outcome_of w p) [
      | no_act h ↦ ap (λ t. length t.parties) (turn_none (suc n) p w h)
      | an_act u h ↦ ap (λ t. length t.parties) (turn_some n p w u h) ∙ turn_length n p u ∙ length-act w u p h
    ]

-- ---- a round

round_zero : (p : ℕ) (w : World) → turn_of_each zero p w ≡ w
unfolding turn_of_each
round_zero p w = refl

round_suc : (k p : ℕ) (w : World) → turn_of_each (suc k) p w ≡ turn_of_each k (p + 1) (as_long_as_ready 10000 p w)
unfolding turn_of_each
round_suc k p w = refl

pub round_leads : (k p : ℕ) (w : World) → Leads w (turn_of_each k p w)
round_leads zero p w = subst (Leads w) (sym (round_zero p w)) (no_acts w)
round_leads (suc k) p w =
    subst (Leads w) (sym (round_suc k p w)) (leads_trans w (as_long_as_ready 10000 p w) (turn_of_each k (p + 1) (as_long_as_ready 10000 p w)) (turn_leads 10000 p w) (round_leads k (p + 1) (as_long_as_ready 10000 p w)))

round_left : (k p : ℕ) (w : World) → left_in (turn_of_each k p w) ≤ left_in w
round_left zero p w = omega (arith, ap left_in (round_zero p w))
round_left (suc k) p w = omega (arith, ap left_in (round_suc k p w), turn_left 10000 p w, round_left k (p + 1) (as_long_as_ready 10000 p w))

-- nobody of the k parties from p on can act, and the round changes nothing; or somebody acts
pub data Round (k p : ℕ) (w : World) : Type 0 where
  idle : ((q : ℕ) → p ≤ q → q < p + k → act_of w q ≡ None) → turn_of_each k p w ≡ w → Round k p w
  busy : left_in (turn_of_each k p w) < left_in w → Round k p w

round_more : (k p : ℕ) (w : World) → act_of w p ≡ None → turn_of_each (suc k) p w ≡ turn_of_each k (p + 1) w → Round k (p + 1) w → Round (suc k) p w
round_more k p w none onward (idle others same) =
    idle (λ q ge lt. elim (cases_eq p q) [ inl it ↦ subst (λ (t : ℕ). act_of w t ≡ None) it none | inr other ↦ others q (omega arith) (omega arith) ]) (onward ∙ same)
round_more k p w none onward (busy less) = busy (omega (arith, less, ap left_in onward))

pub round_of : (k p : ℕ) (w : World) → Round k p w
round_of zero p w = idle (λ q ge lt. absurd (omega arith)) (round_zero p w)
round_of (suc k) p w =
    elim (outcome_of w p) [
      | no_act h ↦ round_more k p w h (round_suc k p w ∙ ap (turn_of_each k (p + 1)) (turn_none 10000 p w h)) (round_of k (p + 1) w)
      | an_act u h ↦ busy (omega (arith, ap left_in (round_suc k p w), round_left k (p + 1) (as_long_as_ready 10000 p w), ap left_in (turn_some 9999 p w u h), turn_left 9999 p u, left_in-act w u p h))
    ]

no_such_party : (w : World) (p : ℕ) → length w.parties ≤ p → act_of w p ≡ None
no_such_party w p le = ap (λ o. option_map (changed_world w p) (option_and_then (Rattle.sj_semantics.specs.World.change_of_program w p) o)) (slice_get_past w.parties p le)

pub idle_is_settled : (w : World) → ((q : ℕ) → 0 ≤ q → q < 0 + length w.parties → act_of w q ≡ None) → IsSettled w
idle_is_settled w none = λ p. elim (cases_lt p (length w.parties)) [ inl lt ↦ none p (omega arith) (omega arith) | inr ge ↦ no_such_party w p ge ]
