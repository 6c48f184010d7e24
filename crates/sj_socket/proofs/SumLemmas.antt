-- Sums of counts, one element after the other.
use Rattle.std.proofs.Common.{zero, suc, ◌≡◌, ℕ, ◌+◌, ◌<◌, ◌≤◌, min, List, [], ◌∷◌, length, take, get_or, Some, refl, ap, subst, arith}
use Rattle.std.specs.Prelude.{slice_get}
use Rattle.std.proofs.lemmas.List.{take_all}
use Rattle.sj_socket.specs.Counts.{total}

-- the sum with one more
pub next_sum : (l b s m t f : ℕ) → s ≡ min (b + m) l → t ≡ m + f → min (s + f) l ≡ min (b + t) l
next_sum l b s m t f now next = omega arith

-- with two more
pub next_both : (l b s m t r f g : ℕ) → s ≡ min (b + m) l → t ≡ m + (f + g) → r ≡ min (s + f) l → min (r + g) l ≡ min (b + t) l
next_both l b s m t r f g now next first = omega arith

module _ {X : Type 0} (f : X → ℕ) where
  total_suc : (xs : List X) (k : ℕ) (x : X) → k < length xs → x ≡ get_or xs k x → total f (take (suc k) xs) ≡ total f (take k xs) + f x
  total_suc [] k x lt is = absurd (omega arith)
  total_suc (y ∷ ys) zero x lt is = let e = ap f is in omega (arith, e)
  total_suc (y ∷ ys) (suc k) x lt is = let more = total_suc ys k x (omega (arith, lt)) is in omega (arith, more)

  pub total_next : (xs : List X) (k : ℕ) (x : X) → k < length xs → x ≡ get_or xs k x → total f (take (k + 1) xs) ≡ total f (take k xs) + f x
  total_next xs k x lt is = subst (λ (n : ℕ). total f (take n xs) ≡ total f (take k xs) + f x) (let e : suc k ≡ k + 1 = omega arith in e) (total_suc xs k x lt is)

  pub total_whole : (xs : List X) (k : ℕ) → length xs ≤ k → total f (take k xs) ≡ total f xs
  total_whole xs k le = ap (total f) (take_all k xs le)

  -- nothing comes of nothing
  pub total_none : (xs : List X) → ((k : ℕ) (x : X) → slice_get xs k ≡ Some x → f x ≡ 0) → total f xs ≡ 0
  total_none [] none = refl
  total_none (x ∷ xs) none =
      let here = none 0 x refl in let others = total_none xs (λ k y at. none (suc k) y at) in
      omega (arith, here, others)

  -- no element's count is above the sum
  pub below_total : (xs : List X) (k : ℕ) (x : X) → slice_get xs k ≡ Some x → f x ≤ total f xs
  below_total [] k x at = absurd (cc at)
  below_total (y ∷ ys) zero x at = let same : y ≡ x = cc at in let e = ap f same in omega (arith, e)
  below_total (y ∷ ys) (suc k) x at = let h = below_total ys k x at in omega (arith, h)
