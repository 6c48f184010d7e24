-- How the parties stand, one after another.
use Rattle.std.proofs.Common.{◌≡◌, ℕ, zero, suc, ◌+◌, ◌<◌, ◌≤◌, true, false, ◌&&◌, ◌||◌, List, [], ◌∷◌, drop, length, slice_get, refl, ap, sym, ◌∙◌, arith}
use Rattle.std.specs.List.{list_all, list_any}
use Rattle.sj_semantics.specs.declared.State.{State}
use Rattle.sj_semantics.specs.Program.{Program}
use Rattle.sj_semantics.specs.State.{has_ended, is_at_limit, state_if, state_of, states_from}
use Rattle.sj_semantics.specs.World.{World}

-- how those from number i on stand
abbrev pub states_on : World → ℕ → List State
states_on w i = states_from w i (drop i w.parties)

next_stands : (w : World) (k i j : ℕ) (gs : List Program) → i < length gs → j ≡ suc i → states_from w k (drop i gs) ≡ state_if w k (slice_get gs i) ∷ states_from w (k + 1) (drop j gs)
next_stands w k i j [] lt is = absurd (omega (arith, lt))
next_stands w k zero zero (g ∷ gs) lt is = absurd (omega (arith, is))
next_stands w k zero (suc j) (g ∷ gs) lt is = ap (λ t. states_from w k (g ∷ drop t gs)) (let it : 0 ≡ j = omega (arith, is) in it)
next_stands w k (suc i) zero (g ∷ gs) lt is = absurd (omega (arith, is))
next_stands w k (suc i) (suc j) (g ∷ gs) lt is = next_stands w k i j gs (omega (arith, lt)) (omega (arith, is))

pub one_stands : (w : World) (i : ℕ) → i < length w.parties → states_on w i ≡ state_of w i ∷ states_on w (i + 1)
one_stands w i lt = next_stands w i i (i + 1) w.parties lt (omega arith)

drop_all : (k : ℕ) (gs : List Program) → length gs ≤ k → drop k gs ≡ []
drop_all zero [] le = refl
drop_all (suc k) [] le = refl
drop_all zero (g ∷ gs) le = absurd (omega (arith, le))
drop_all (suc k) (g ∷ gs) le = drop_all k gs (omega (arith, le))

pub none_stands : (w : World) (i : ℕ) → length w.parties ≤ i → states_on w i ≡ []
none_stands w i le = ap (states_from w i) (drop_all i w.parties le)

-- ---- one at a limit is found, or is sought among the others

pub one_at_limit : (w : World) (i : ℕ) (s : State) → i < length w.parties → s ≡ state_of w i → true ≡ is_at_limit s → true ≡ list_any is_at_limit (states_on w i)
one_at_limit w i s lt is hit = ap (λ b. b || list_any is_at_limit (states_on w (i + 1))) (hit ∙ ap is_at_limit is) ∙ sym (ap (list_any is_at_limit) (one_stands w i lt))

pub others_at_limit : (w : World) (i : ℕ) (s : State) → i < length w.parties → s ≡ state_of w i → false ≡ is_at_limit s → list_any is_at_limit (states_on w (i + 1)) ≡ list_any is_at_limit (states_on w i)
others_at_limit w i s lt is miss = ap (λ b. b || list_any is_at_limit (states_on w (i + 1))) (miss ∙ ap is_at_limit is) ∙ sym (ap (list_any is_at_limit) (one_stands w i lt))

pub one_goes_on : (w : World) (i : ℕ) (s : State) → i < length w.parties → s ≡ state_of w i → false ≡ has_ended s → false ≡ list_all has_ended (states_on w i)
one_goes_on w i s lt is miss = ap (λ b. b && list_all has_ended (states_on w (i + 1))) (miss ∙ ap has_ended is) ∙ sym (ap (list_all has_ended) (one_stands w i lt))

pub others_ended : (w : World) (i : ℕ) (s : State) → i < length w.parties → s ≡ state_of w i → true ≡ has_ended s → list_all has_ended (states_on w (i + 1)) ≡ list_all has_ended (states_on w i)
others_ended w i s lt is hit = ap (λ b. b && list_all has_ended (states_on w (i + 1))) (hit ∙ ap has_ended is) ∙ sym (ap (list_all has_ended) (one_stands w i lt))
