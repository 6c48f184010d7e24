-- From every world there are acts that finish it, and each costs a step.
use Rattle.std.proofs.Common.{◌≡◌, ℕ, zero, suc, ◌+◌, ◌≤◌, ◌<◌, List, [], ◌∷◌, ◌++◌, length, refl, ap, length-append, arith}
use Rattle.sj_semantics.specs.World.{World}
use Rattle.sj_semantics_laws.proofs.RoundLemmas.{no_act, an_act, outcome_of}
use Rattle.sj_plain.specs.Finish.{ActInTurn, ActsOut, IsFinished, IsRound}
use Rattle.sj_plain.specs.Finishing.{Leads}
use Rattle.sj_plain.specs.Rounds.{steps_left}
use Rattle.sj_plain.proofs.CourseLemmas.{act_costs}

-- some acts are of that relation
abbrev pub LeadsOn : Leads → World → Type 0
LeadsOn R w = (ps : List ℕ) × ((v : World) × R w ps v)

-- ---- each act costs a step

out_costs : (p : ℕ) (w v : World) (ps : List ℕ) → ActsOut p w ps v → steps_left v + length ps ≡ steps_left w
out_costs p w v [] h = omega (arith, ap steps_left h.1)
out_costs p w v (q ∷ ps) h = omega (arith, out_costs p h.1.0 v ps h.1.1.1, act_costs w h.1.0 p h.1.1.0)

turns_cost : (k p : ℕ) (w v : World) (ps : List ℕ) → ActInTurn k p w ps v → steps_left v + length ps ≡ steps_left w
turns_cost zero p w v ps h = omega (arith, ap steps_left h.1, ap length h.0)
turns_cost (suc k) p w v ps h =
    let more = h.1.1.1 in
    omega (arith, ap length more.0, length-append h.0 h.1.0, out_costs p w h.1.1.0 h.0 more.1, turns_cost k (p + 1) h.1.1.0 v h.1.0 more.2)

pub round_costs : (w v : World) (ps : List ℕ) → IsRound w ps v → steps_left v + length ps ≡ steps_left w
round_costs w v ps h = turns_cost (length w.parties) 0 w v ps h

-- ---- there are such acts

out_within : (n p : ℕ) (w : World) → steps_left w ≤ n → LeadsOn (ActsOut p) w
out_within zero p w few = elim (outcome_of w p) [ no_act h ↦ ([], (w, (h, refl))) | an_act u h ↦ absurd (omega (arith, few, act_costs w u p h)) ]
out_within (suc n) p w few =
    elim (outcome_of w p) [
      | no_act h ↦ ([], (w, (h, refl)))
      | an_act u h ↦ let on = out_within n p u (omega (arith, few, act_costs w u p h)) in (p ∷ on.0, (on.1.0, (refl, (u, (h, on.1.1)))))
    ]

pub acts_out : (p : ℕ) (w : World) → LeadsOn (ActsOut p) w
acts_out p w = out_within (steps_left w) p w (omega arith)

pub act_in_turn : (k p : ℕ) (w : World) → LeadsOn (ActInTurn k p) w
act_in_turn zero p w = ([], (w, (refl, refl)))
act_in_turn (suc k) p w =
    let first = acts_out p w in
    let rest = act_in_turn k (p + 1) first.1.0 in (first.0 ++ rest.0, (rest.1.0, (first.0, (rest.0, (first.1.0, (refl, first.1.1, rest.1.1))))))

finish_from : (n : ℕ) (w v : World) (ps : List ℕ) → steps_left w < suc n → IsRound w ps v → (steps_left v < n → LeadsOn IsFinished v) → LeadsOn IsFinished w
finish_from n w v [] few round on = ([], (v, ([], (refl, round))))
finish_from n w v (q ∷ qs) few round on =
    let last = on (omega (arith, few, round_costs w v (q ∷ qs) round)) in
    ((q ∷ qs) ++ last.0, (last.1.0, ((q ∷ qs) ∷ last.1.1.0, (last.0, (v, (λ none. absurd (cc none), refl, round, last.1.1.1))))))

finish_within : (n : ℕ) (w : World) → steps_left w < n → LeadsOn IsFinished w
finish_within zero w few = absurd (omega (arith, few))
finish_within (suc n) w few =
    let round = act_in_turn (length w.parties) 0 w in
    finish_from n w round.1.0 round.0 few round.1.1 (finish_within n round.1.0)

pub finishes : (w : World) → LeadsOn IsFinished w
finishes w = finish_within (suc (steps_left w)) w (omega arith)
