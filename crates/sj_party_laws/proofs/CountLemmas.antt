-- What is counted within a limit.
use Rattle.std.proofs.Common.{◌≡◌, ℕ, suc, ◌+◌, ◌<◌, ◌≤◌, subst, arith}

-- from n on so many are counted, and so the limit isn't passed
pub record Counts (most n c m : ℕ) : Type 0 where
  pub same : m ≡ n + c
  pub within : n ≤ most → m ≤ most

pub counts_none : (most n : ℕ) → Counts most n 0 n
counts_none most n = record { same = omega arith; within = λ h. h }

pub counts_one : (most n : ℕ) → n < most → Counts most n 1 (suc n)
counts_one most n h = record { same = omega arith; within = λ g. omega arith }

pub counts_then : (most n c k d m : ℕ) → Counts most n c k → Counts most k d m → Counts most n (c + d) m
counts_then most n c k d m x y = record { same = let a = x.same in let b = y.same in omega arith; within = λ h. y.within (x.within h) }

pub counts_as : (most n c d m : ℕ) → c ≡ d → Counts most n c m → Counts most n d m
counts_as most n c d m e x = subst (λ (j : ℕ). Counts most n j m) e x

pub counts_few : (most c m : ℕ) → Counts most 0 c m → c ≤ most
counts_few most c m x = let same = x.same in let within = x.within (omega arith) in omega arith
