-- The end of a file is settled, and a run reaches it.
use Rattle.std.proofs.Common.{◌≡◌, ℕ, zero, suc, ◌+◌, ◌*◌, ◌≤◌, List, [], ◌∷◌, length, sum_by, refl, ap, sym, ◌∙◌, arith, subst}
use Rattle.std.proofs.lemmas.List.Sums.{sum_by-cons}
use Rattle.sj_lang.specs.FileAt.{FileAt, PartyAt}
use Rattle.sj_semantics.specs.World.{World, program_of, programs_from, start_of}
use Rattle.sj_semantics.specs.State.{IsSettled}
use Rattle.sj_semantics.specs.Run.{turn_of_each, rounds, end_of}
use Rattle.sj_semantics_laws.proofs.RunLemmas.{Leads, no_acts, leads_trans}
use Rattle.sj_semantics_laws.proofs.RoundLemmas.{left_of, left_in, left_in-act, outcome_of, round_leads, Round, round_of, idle_is_settled, no_act, an_act, idle, busy}

-- ---- all rounds

rounds_zero : (w : World) → rounds zero w ≡ w
unfolding rounds
rounds_zero w = refl

rounds_suc : (n : ℕ) (w : World) → rounds (suc n) w ≡ rounds n (turn_of_each (length w.parties) 0 w)
unfolding rounds
rounds_suc n w = refl

rounds_lead : (n : ℕ) (w : World) → Leads w (rounds n w)
rounds_lead zero w = subst (Leads w) (sym (rounds_zero w)) (no_acts w)
rounds_lead (suc n) w = subst (Leads w) (sym (rounds_suc n w)) (leads_trans w (turn_of_each (length w.parties) 0 w) (rounds n (turn_of_each (length w.parties) 0 w)) (round_leads (length w.parties) 0 w) (rounds_lead n (turn_of_each (length w.parties) 0 w)))

rounds_stay : (n : ℕ) (w : World) → turn_of_each (length w.parties) 0 w ≡ w → rounds n w ≡ w
rounds_stay zero w same = rounds_zero w
rounds_stay (suc n) w same = rounds_suc n w ∙ ap (rounds n) same ∙ rounds_stay n w same

nothing_left : (w : World) → left_in w ≤ 0 → IsSettled w
nothing_left w none = λ p. elim (outcome_of w p) [ no_act h ↦ h | an_act u h ↦ absurd (omega (arith, left_in-act w u p h)) ]

after_round : (n : ℕ) (w : World) → (left_in (turn_of_each (length w.parties) 0 w) ≤ n → IsSettled (rounds n (turn_of_each (length w.parties) 0 w))) → left_in w ≤ suc n → Round (length w.parties) 0 w → IsSettled (rounds (suc n) w)
after_round n w onward le (idle none same) = subst IsSettled (sym (rounds_stay (suc n) w same)) (idle_is_settled w none)
after_round n w onward le (busy less) = subst IsSettled (sym (rounds_suc n w)) (onward (omega (arith, less)))

rounds_settle : (n : ℕ) (w : World) → left_in w ≤ n → IsSettled (rounds n w)
rounds_settle zero w le = subst IsSettled (sym (rounds_zero w)) (nothing_left w le)
rounds_settle (suc n) w le = after_round n w (rounds_settle n (turn_of_each (length w.parties) 0 w)) le (round_of (length w.parties) 0 w)

pub left_at_start : (file : FileAt) (p : ℕ) (qs : List PartyAt) → sum_by left_of (programs_from file p qs) ≡ 10000 * length qs
left_at_start file p [] = refl
left_at_start file p (q ∷ qs) = omega (arith, sum_by-cons left_of (program_of file p q) (programs_from file (p + 1) qs), left_at_start file (p + 1) qs)

end_of_is : (file : FileAt) → end_of file ≡ rounds (10000 * length file.parties) (start_of file)
unfolding end_of
end_of_is file = refl

pub end_is_settled : (file : FileAt) → IsSettled (end_of file)
end_is_settled file = subst IsSettled (sym (end_of_is file)) (rounds_settle (10000 * length file.parties) (start_of file) (omega (arith, left_at_start file 0 file.parties)))

pub end_is_reached : (file : FileAt) → Leads (start_of file) (end_of file)
end_is_reached file = subst (Leads (start_of file)) (sym (end_of_is file)) (rounds_lead (10000 * length file.parties) (start_of file))
