-- Two ends lie at one place exactly where they are one.
use Rattle.std.proofs.Common.{◌≡◌, ℕ, zero, suc, ◌+◌, ◌*◌, ◌==◌, Bool, true, false, ◌&&◌, refl, ap, arith, inl, inr}
use Rattle.std.proofs.lemmas.Bool.Decides.{eqb_tells}
use Rattle.sj_base.specs.declared.EndId.{EndId}
use Rattle.sj_semantics.specs.Ends.{is_end, is_same_side, other_end, other_side}
use Rattle.sj_told.specs.Told.{side_slot, slot_of}

and_false : (b : Bool) → b && false ≡ false
and_false true = refl
and_false false = refl

same_number : (s t : ℕ) → s ≡ t → (s == t) ≡ true
same_number s t e = elim (eqb_tells s t) [ inl u ↦ u.0 | inr u ↦ absurd (u.1 e) ]

other_number : (s t : ℕ) → (s ≡ t → ⊥) → (s == t) ≡ false
other_number s t ne = elim (eqb_tells s t) [ inl u ↦ absurd (ne u.1) | inr u ↦ u.0 ]

by_same : (s t d k : ℕ) → 2 * s + side_slot d ≡ 2 * t + side_slot k → (s == t) && is_same_side d k ≡ true
by_same s t zero zero e = ap (λ b. b && true) (same_number s t (omega (arith, e)))
by_same s t (suc d) (suc k) e = ap (λ b. b && true) (same_number s t (omega (arith, e)))
by_same s t zero (suc k) e = absurd (omega (arith, e))
by_same s t (suc d) zero e = absurd (omega (arith, e))

by_apart : (s t d k : ℕ) → (2 * s + side_slot d ≡ 2 * t + side_slot k → ⊥) → (s == t) && is_same_side d k ≡ false
by_apart s t zero zero ne = ap (λ b. b && true) (other_number s t (λ e. ne (ap (λ x. 2 * x + 0) e)))
by_apart s t (suc d) (suc k) ne = ap (λ b. b && true) (other_number s t (λ e. ne (ap (λ x. 2 * x + 1) e)))
by_apart s t zero (suc k) ne = and_false (s == t)
by_apart s t (suc d) zero ne = and_false (s == t)

pub slots_same : (e f : EndId) → slot_of e ≡ slot_of f → is_end e f ≡ true
slots_same e f same = by_same e.sess f.sess e.side f.side same

pub slots_apart : (e f : EndId) → (slot_of e ≡ slot_of f → ⊥) → is_end e f ≡ false
slots_apart e f apart = by_apart e.sess f.sess e.side f.side apart

-- the other sides lie at one place where the sides do
turned : (s t d k : ℕ) → 2 * s + side_slot d ≡ 2 * t + side_slot (other_side k) → 2 * s + side_slot (other_side d) ≡ 2 * t + side_slot k
turned s t zero zero e = absurd (omega (arith, e))
turned s t (suc d) (suc k) e = absurd (omega (arith, e))
turned s t zero (suc k) e = omega (arith, e)
turned s t (suc d) zero e = omega (arith, e)

turned_back : (s t d k : ℕ) → 2 * s + side_slot (other_side d) ≡ 2 * t + side_slot k → 2 * s + side_slot d ≡ 2 * t + side_slot (other_side k)
turned_back s t zero zero e = absurd (omega (arith, e))
turned_back s t (suc d) (suc k) e = absurd (omega (arith, e))
turned_back s t zero (suc k) e = omega (arith, e)
turned_back s t (suc d) zero e = omega (arith, e)

pub others_same : (e f : EndId) → slot_of e ≡ slot_of (other_end f) → is_end (other_end e) f ≡ true
others_same e f same = slots_same (other_end e) f (turned e.sess f.sess e.side f.side same)

pub others_apart : (e f : EndId) → (slot_of e ≡ slot_of (other_end f) → ⊥) → is_end (other_end e) f ≡ false
others_apart e f apart = slots_apart (other_end e) f (λ same. apart (turned_back e.sess f.sess e.side f.side same))
