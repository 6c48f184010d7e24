-- Rounds until nobody can act lead to one world, which the definition computes.
use Rattle.std.proofs.Common.{◌≡◌, ℕ, zero, suc, ◌+◌, ◌*◌, ◌≤◌, List, [], ◌∷◌, ◌++◌, length, slice_get, Option, Some, None, option_map, unwrap_or, sum_by, refl, ap, sym, ◌∙◌, arith, subst}
use Rattle.std.proofs.lemmas.List.Sums.{sum_by-cons}
use Rattle.sj_semantics.specs.Program.{Program}
use Rattle.sj_semantics.specs.World.{World, act_of}
use Rattle.sj_semantics.specs.State.{IsSettled}
use Rattle.sj_semantics.specs.Run.{or_on, as_long_as_ready, turn_of_each, rounds}
use Rattle.sj_semantics_laws.proofs.AlteredLemmas.{slice_get-altered, sum_by-altered}
use Rattle.sj_semantics_laws.proofs.CommuteLemmas.{Doing, doing_of}
use Rattle.sj_semantics_laws.proofs.RoundLemmas.{left_of, left_in, left_in-act, outcome_of, Round, round_of, idle_is_settled, no_act, an_act, idle, busy, round_leads}
use Rattle.sj_semantics_laws.proofs.RunLemmas.{Leads, no_acts, leads_trans}
use Rattle.sj_plain.specs.Finish.{ActInTurn, ActsOut, FinishesBy, IsFinished}
use Rattle.sj_talk.specs.TalkWorld.{settled_from}

-- ---- one party's turn

turn_zero : (p : ℕ) (w : World) → as_long_as_ready zero p w ≡ w
unfolding as_long_as_ready
turn_zero p w = refl

turn_none : (n p : ℕ) (w : World) → act_of w p ≡ None → as_long_as_ready n p w ≡ w
unfolding as_long_as_ready
turn_none zero p w h = refl
turn_none (suc n) p w h = ap (or_on (as_long_as_ready n p) w) h

turn_some : (n p : ℕ) (w u : World) → act_of w p ≡ Some u → as_long_as_ready (suc n) p w ≡ as_long_as_ready n p u
unfolding as_long_as_ready
turn_some n p w u h = ap (or_on (as_long_as_ready n p) w) h

-- the steps that a party has left
abbrev left_at : World → ℕ → ℕ
left_at w p = unwrap_or (option_map left_of (slice_get w.parties p)) 0

left_here : (w : World) (p : ℕ) (g : Program) → slice_get w.parties p ≡ Some g → left_at w p ≡ left_of g
left_here w p g h = ap (λ o. unwrap_or (option_map left_of o) 0) h

left_by : (w v : World) (p : ℕ) → act_of w p ≡ Some v → (a : Doing w p v) → left_at v p + 1 ≡ left_at w p
left_by w v p h a =
    let there : slice_get v.parties p ≡ Some a.change.program =
    ap (λ (t : World). slice_get t.parties p) (sym a.result) ∙ slice_get-altered w.parties p (λ g. a.change.program) ∙ ap (option_map (λ g. a.change.program)) a.there in
    omega (arith, left_here w p a.program a.there, left_here v p a.change.program there, left_in-act w v p h, ap left_in a.result, sum_by-altered left_of w.parties p (λ g. a.change.program) a.program a.there)

left_act : (w v : World) (p : ℕ) → act_of w p ≡ Some v → left_at v p + 1 ≡ left_at w p
left_act w v p h = left_by w v p h (doing_of w p v h)

turn_ends : (n p : ℕ) (w : World) → left_at w p ≤ n → act_of (as_long_as_ready n p w) p ≡ None
turn_ends zero p w le =
    elim (outcome_of w p) [
      | no_act h ↦ subst (λ (t : World). act_of t p ≡ None) (sym (turn_zero p w)) h
      | an_act u h ↦ absurd (omega (arith, left_act w u p h))
    ]
turn_ends (suc n) p w le =
    elim (outcome_of w p) [
      | no_act h ↦ subst (λ (t : World). act_of t p ≡ None) (sym (turn_none (suc n) p w h)) h
      | an_act u h ↦ subst (λ (t : World). act_of t p ≡ None) (sym (turn_some n p w u h)) (turn_ends n p u (omega (arith, left_act w u p h)))
    ]

left_if : (o : Option Program) → unwrap_or (option_map left_of o) 0 ≤ 10000
left_if None = omega arith
left_if (Some g) = omega arith

out_is : (n p : ℕ) (w v : World) (ps : List ℕ) → ActsOut p w ps v → act_of (as_long_as_ready n p w) p ≡ None → as_long_as_ready n p w ≡ v
out_is zero p w v [] h none = turn_zero p w ∙ h.1
out_is zero p w v (q ∷ ps) h none = let same : act_of w p ≡ None = subst (λ (t : World). act_of t p ≡ None) (turn_zero p w) none in let some = h.1.1.0 in absurd (cc)
out_is (suc n) p w v [] h none = turn_none (suc n) p w h.0 ∙ h.1
out_is (suc n) p w v (q ∷ ps) h none =
    let one = turn_some n p w h.1.0 h.1.1.0 in one ∙ out_is n p h.1.0 v ps h.1.1.1 (subst (λ (t : World). act_of t p ≡ None) one none)

-- ---- a round

round_suc : (k p : ℕ) (w : World) → turn_of_each (suc k) p w ≡ turn_of_each k (p + 1) (as_long_as_ready 10000 p w)
unfolding turn_of_each
round_suc k p w = refl

round_zero : (p : ℕ) (w : World) → turn_of_each zero p w ≡ w
unfolding turn_of_each
round_zero p w = refl

turns_are : (k p : ℕ) (w v : World) (ps : List ℕ) → ActInTurn k p w ps v → turn_of_each k p w ≡ v
turns_are zero p w v ps h = round_zero p w ∙ h.1
turns_are (suc k) p w v ps h =
    let parts = h.1.1.1 in
    round_suc k p w
    ∙ ap (turn_of_each k (p + 1)) (out_is 10000 p w h.1.1.0 h.0 parts.1 (turn_ends 10000 p w (left_if (slice_get w.parties p))))
    ∙ turns_are k (p + 1) h.1.1.0 v h.1.0 parts.2

-- where nobody can act no round has an act
nothing_out : (p : ℕ) (w v : World) (ps : List ℕ) → IsSettled w → ActsOut p w ps v → (ps ≡ []) × (w ≡ v)
nothing_out p w v [] settled h = (refl, h.1)
nothing_out p w v (q ∷ ps) settled h = let none = settled p in let some = h.1.1.0 in absurd (cc)

nothing_in_turn : (k p : ℕ) (w v : World) (ps : List ℕ) → IsSettled w → ActInTurn k p w ps v → ps ≡ []
nothing_in_turn zero p w v ps settled h = h.0
nothing_in_turn (suc k) p w v ps settled h =
    let parts = h.1.1.1 in
    let none = nothing_out p w h.1.1.0 h.0 settled parts.1 in
    parts.0 ∙ ap (λ t. t ++ h.1.0) none.0 ∙ nothing_in_turn k (p + 1) h.1.1.0 v h.1.0 (subst IsSettled none.1 settled) parts.2

-- a round without an act changes nothing
front_none : (xs ys : List ℕ) → xs ++ ys ≡ [] → (xs ≡ []) × (ys ≡ [])
front_none [] ys h = (refl, h)
front_none (x ∷ xs) ys h = absurd (cc h)

stays_out : (p : ℕ) (w v : World) (ps : List ℕ) → ps ≡ [] → ActsOut p w ps v → w ≡ v
stays_out p w v [] e h = h.1
stays_out p w v (q ∷ ps) e h = absurd (cc e)

stays_in_turn : (k p : ℕ) (w v : World) (ps : List ℕ) → ps ≡ [] → ActInTurn k p w ps v → w ≡ v
stays_in_turn zero p w v ps e h = h.1
stays_in_turn (suc k) p w v ps e h =
    let parts = h.1.1.1 in
    let none = front_none h.0 h.1.0 (sym parts.0 ∙ e) in
    stays_out p w h.1.1.0 h.0 none.0 parts.1 ∙ stays_in_turn k (p + 1) h.1.1.0 v h.1.0 none.1 parts.2

-- ---- all rounds

rounds_zero : (w : World) → rounds zero w ≡ w
unfolding rounds
rounds_zero w = refl

rounds_suc : (n : ℕ) (w : World) → rounds (suc n) w ≡ rounds n (turn_of_each (length w.parties) 0 w)
unfolding rounds
rounds_suc n w = refl

rounds_stay : (n : ℕ) (w : World) → turn_of_each (length w.parties) 0 w ≡ w → rounds n w ≡ w
rounds_stay zero w same = rounds_zero w
rounds_stay (suc n) w same = rounds_suc n w ∙ ap (rounds n) same ∙ rounds_stay n w same

nothing_left : (w : World) → left_in w ≤ 0 → IsSettled w
nothing_left w none = λ p. elim (outcome_of w p) [ no_act h ↦ h | an_act u h ↦ absurd (omega (arith, left_in-act w u p h)) ]

after_round : (n : ℕ) (w : World) → (left_in (turn_of_each (length w.parties) 0 w) ≤ n → IsSettled (rounds n (turn_of_each (length w.parties) 0 w))) → left_in w ≤ suc n → Round (length w.parties) 0 w → IsSettled (rounds (suc n) w)
after_round n w onward le (idle none same) = subst IsSettled (sym (rounds_stay (suc n) w same)) (idle_is_settled w none)
after_round n w onward le (busy less) = subst IsSettled (sym (rounds_suc n w)) (onward (omega (arith, less)))

rounds_settle : (n : ℕ) (w : World) → left_in w ≤ n → IsSettled (rounds n w)
rounds_settle zero w le = subst IsSettled (sym (rounds_zero w)) (nothing_left w le)
rounds_settle (suc n) w le = after_round n w (rounds_settle n (turn_of_each (length w.parties) 0 w)) le (round_of (length w.parties) 0 w)

left_within : (gs : List Program) → sum_by left_of gs ≤ 10000 * length gs
left_within [] = omega arith
left_within (g ∷ gs) = omega (arith, sum_by-cons left_of g gs, left_within gs)

finishes_are : (rs : List (List ℕ)) (n : ℕ) (w v : World) (ps : List ℕ) → FinishesBy rs w ps v → IsSettled (rounds n w) → rounds n w ≡ v
finishes_are [] n w v ps h settled =
    let same = stays_in_turn (length w.parties) 0 w v [] refl h.1 in
    rounds_stay n w (turns_are (length w.parties) 0 w v [] h.1 ∙ sym same) ∙ same
finishes_are (r ∷ rs) zero w v ps h settled =
    let parts = h.1.1 in
    absurd (parts.0 (nothing_in_turn (length w.parties) 0 w h.1.0 r (subst IsSettled (rounds_zero w) settled) parts.2))
finishes_are (r ∷ rs) (suc n) w v ps h settled =
    let parts = h.1.1 in
    let one : rounds (suc n) w ≡ rounds n h.1.0 = rounds_suc n w ∙ ap (rounds n) (turns_are (length w.parties) 0 w h.1.0 r parts.2) in
    one ∙ finishes_are rs n h.1.0 v h.0 parts.3 (subst IsSettled one settled)

settled_from_is : (w : World) → settled_from w ≡ rounds (10000 * length w.parties) w
unfolding settled_from
settled_from_is w = refl

-- rounds from the world, until one has no act, lead to the world that is settled from there
pub settled_is : (w v : World) (ps : List ℕ) → IsFinished w ps v → v ≡ settled_from w
settled_is w v ps h = sym (settled_from_is w ∙ finishes_are h.0 (10000 * length w.parties) w v ps h.1 (rounds_settle (10000 * length w.parties) w (left_within w.parties)))

-- ---- acts that lead there

rounds_lead : (n : ℕ) (w : World) → Leads w (rounds n w)
rounds_lead zero w = subst (Leads w) (sym (rounds_zero w)) (no_acts w)
rounds_lead (suc n) w =
    subst (Leads w) (sym (rounds_suc n w)) (leads_trans w (turn_of_each (length w.parties) 0 w) (rounds n (turn_of_each (length w.parties) 0 w)) (round_leads (length w.parties) 0 w) (rounds_lead n (turn_of_each (length w.parties) 0 w)))

-- some acts lead to the world that is settled from the one
pub settled_leads : (w : World) → Leads w (settled_from w)
settled_leads w = subst (Leads w) (sym (settled_from_is w)) (rounds_lead (10000 * length w.parties) w)
