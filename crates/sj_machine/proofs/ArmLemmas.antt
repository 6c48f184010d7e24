-- Arms of an `inbranch`, one after another.
use Rattle.std.proofs.Common.{◌≡◌, ℕ, zero, suc, ◌+◌, ◌<◌, ◌==◌, Bool, false, cond, List, [], ◌∷◌, length, drop, slice_index_or, Some, ap, sym, subst, arith}
use Rattle.sj_lang.specs.Code.{Code}
use Rattle.sj_semantics.specs.Steps.{arm_named}
use Rattle.sj_machine.specs.declared.arena.ArmAt.{ArmAt}
use Rattle.sj_machine.specs.Arena.{IsBelow, AreBelow, arms_in, code_in}

pub arm_is_below : (arms : List ArmAt) (i k : ℕ) (d : ArmAt) → i < length arms → AreBelow k arms → IsBelow k (slice_index_or arms i d).body
arm_is_below [] i k d lt h = absurd (omega arith)
arm_is_below (a ∷ arms) zero k d lt h = h.0
arm_is_below (a ∷ arms) (suc i) k d lt h = arm_is_below arms i k d (omega arith) h.1

below_suc : (arms : List ArmAt) (i k : ℕ) → AreBelow k (drop i arms) → AreBelow k (drop (suc i) arms)
below_suc [] zero k h = h
below_suc [] (suc i) k h = h
below_suc (a ∷ arms) zero k h = h.1
below_suc (a ∷ arms) (suc i) k h = below_suc arms i k h

pub below_next : (arms : List ArmAt) (i k : ℕ) → AreBelow k (drop i arms) → AreBelow k (drop (i + 1) arms)
below_next arms i k h = subst (λ (j : ℕ). AreBelow k (drop j arms)) (let e : suc i ≡ i + 1 = omega arith in e) (below_suc arms i k h)

named_suc : (codes : List Code) (arms : List ArmAt) (i l : ℕ) (d : ArmAt) → i < length arms → (slice_index_or arms i d).label == l ≡ false → arm_named (arms_in codes (drop (suc i) arms)) l ≡ arm_named (arms_in codes (drop i arms)) l
named_suc codes [] i l d lt miss = absurd (omega arith)
named_suc codes (a ∷ arms) zero l d lt miss = sym (ap (λ (t : Bool). cond t (Some (code_in codes a.body)) (arm_named (arms_in codes arms) l)) miss)
named_suc codes (a ∷ arms) (suc i) l d lt miss = named_suc codes arms i l d (omega arith) miss

pub named_next : (codes : List Code) (arms : List ArmAt) (i l : ℕ) (d : ArmAt) → i < length arms → (slice_index_or arms i d).label == l ≡ false → arm_named (arms_in codes (drop (i + 1) arms)) l ≡ arm_named (arms_in codes (drop i arms)) l
named_next codes arms i l d lt miss = subst (λ (j : ℕ). arm_named (arms_in codes (drop j arms)) l ≡ arm_named (arms_in codes (drop i arms)) l) (let e : suc i ≡ i + 1 = omega arith in e) (named_suc codes arms i l d lt miss)
