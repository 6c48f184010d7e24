-- Frames moved on one link after the other, in order of sender and then taker.
use Rattle.std.proofs.Common.{◌≡◌, ℕ, ◌+◌, ◌<◌, List, length, refl, ◌∙◌, arith, inl, inr}
use Rattle.std.proofs.lemmas.Bool.{cases_eq}
use Rattle.std.specs.Prelude.{◌⊎◌}
use Rattle.sj_lane.specs.declared.lane.Lanes.{Lanes}
use Rattle.sj_lane.specs.declared.mem.MemOut.{MemOut}
use Rattle.sj_lane.specs.declared.mem.MemIn.{MemIn}
use Rattle.sj_lane.specs.MemCarry.{AreMoved, AreMovedUpTo, IsBefore, IsMoved, IsStill, OneMoved, RowMoved}

still_same : (L : List (Lanes MemOut MemIn)) (p q : ℕ) → IsStill L L p q
still_same L p q = record { left = refl; there = refl }

module _ (K L M : List (Lanes MemOut MemIn)) (p q : ℕ) where
  still_twice : IsStill K L p q → IsStill L M p q → IsStill K M p q
  still_twice a b = record { left = b.left ∙ a.left; there = b.there ∙ a.there }

  still_moved : IsStill K L p q → IsMoved L M p q → IsMoved K M p q
  still_moved a b = record { gone = b.gone; behind = rw (b.behind, a.left, a.there) refl }

  moved_still : IsMoved K L p q → IsStill L M p q → IsMoved K M p q
  moved_still a b = record { gone = b.left ∙ a.gone; behind = b.there ∙ a.behind }

-- ---- the links of one sender

pub row_none : (L : List (Lanes MemOut MemIn)) (p : ℕ) → RowMoved p 0 L L
row_none L p = record { moved = λ b lt. absurd (omega arith); still = λ a b apart. still_same L a b }

module _ (K L M : List (Lanes MemOut MemIn)) (p q : ℕ) (row : RowMoved p q K L) where
  pub row_more : OneMoved p q L M → RowMoved p (q + 1) K M
  row_more one = record { moved = λ b lt. moved b lt (cases_eq b q); still = still }
    where
      moved : (b : ℕ) → b < q + 1 → (b ≡ q) ⊎ (b ≡ q → ⊥) → IsMoved K M p b
      moved b lt (inl here) =
          still_moved K L M p b (row.still p b (λ c. let is = c.1 in omega arith)) (rw here one.here)
      moved b lt (inr apart) = moved_still K L M p b (row.moved b (omega arith)) (one.others p b (λ c. apart c.1))

      still : (a b : ℕ) → ((a ≡ p) × (b < q + 1) → ⊥) → IsStill K M a b
      still a b apart =
          still_twice K L M a b (row.still a b (λ c. let lt = c.1 in apart (c.0, omega arith))) (one.others a b (λ c. let is = c.1 in apart (c.0, omega arith)))

  pub row_short : ((a b : ℕ) → IsStill L M a b) → RowMoved p q K M
  row_short none = record {
    moved = λ b lt. moved_still K L M p b (row.moved b lt) (none p b);
    still = λ a b apart. still_twice K L M a b (row.still a b apart) (none a b);
  }

-- ---- those of all

pub all_none : (L : List (Lanes MemOut MemIn)) → AreMovedUpTo 0 0 L L
all_none L = record {
  moved = λ a b within before. elim before [ inl lt ↦ absurd (omega arith) | inr c ↦ let lt = c.1 in absurd (omega arith) ];
  still = λ a b apart. still_same L a b;
}

module _ (K L M : List (Lanes MemOut MemIn)) (p : ℕ) (all : AreMovedUpTo p 0 K L) where
  no_further : (a b : ℕ) → (a < p → ⊥) → IsStill K L a b
  no_further a b apart = all.still a b (λ before. elim before [ inl lt ↦ apart lt | inr c ↦ let lt = c.1 in absurd (omega arith) ])

  part : (q : ℕ) → RowMoved p q L M → AreMovedUpTo p q K M
  part q row = record { moved = moved; still = still }
    where
      moved : (a b : ℕ) → b < length K → IsBefore a b p q → IsMoved K M a b
      moved a b within (inl lt) = moved_still K L M a b (all.moved a b within (inl lt)) (row.still a b (λ c. let is = c.0 in omega arith))
      moved a b within (inr c) =
          let is : a ≡ p = c.0 in
          still_moved K L M a b (no_further a b (λ lt. omega arith)) (rw is (row.moved b c.1))

      still : (a b : ℕ) → (IsBefore a b p q → ⊥) → IsStill K M a b
      still a b apart = still_twice K L M a b (no_further a b (λ lt. apart (inl lt))) (row.still a b (λ c. apart (inr c)))

  -- memory was short
  pub all_short : (q : ℕ) → RowMoved p q L M → AreMovedUpTo p q K M
  all_short = part

  -- the whole row is moved
  pub all_more : (n : ℕ) → n ≡ length K → RowMoved p n L M → AreMovedUpTo (p + 1) 0 K M
  all_more n size row = record {
    moved = λ a b within before. (part n row).moved a b within (elim before [
      | inl lt ↦ below a b within (cases_eq a p) lt
      | inr c ↦ let lt = c.1 in absurd (omega arith)
    ]);
    still = λ a b apart. (part n row).still a b (λ before. apart (elim before [
      | inl lt ↦ inl (omega arith)
      | inr c ↦ let is = c.0 in inl (omega arith)
    ]));
  }
    where
      below : (a b : ℕ) → b < length K → (a ≡ p) ⊎ (a ≡ p → ⊥) → a < p + 1 → IsBefore a b p n
      below a b within (inl is) lt = inr (is, omega arith)
      below a b within (inr apart) lt = inl (omega arith)

-- all rows are
pub all_moved : (K L : List (Lanes MemOut MemIn)) (n : ℕ) → n ≡ length K → AreMovedUpTo n 0 K L → AreMoved K L
all_moved K L n size all p q hp hq = all.moved p q hq (inl (omega arith))
