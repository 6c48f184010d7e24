-- Where no party has requested, nothing was opened.
use Rattle.std.proofs.Common.{◌≡◌, ℕ, zero, suc, ◌+◌, ◌<◌, ◌≤◌, List, [], ◌∷◌, ◌++◌, length, refl, ap, ◌∙◌, arith}
use Rattle.sj_semantics.specs.declared.Opened.{Opened}
use Rattle.sj_semantics.specs.Requests.{Request, Requests, opened_by, opened_from}

none_by : (p : ℕ) (rs : List Request) → length rs ≡ 0 → opened_by p 0 rs ≡ []
none_by p [] h = refl
none_by p (r ∷ rs) h = absurd (omega (arith, h))

pub none_opened : (all : Requests) (n p : ℕ) → ((q : ℕ) → p ≤ q → q < p + n → length (all q) ≡ 0) → opened_from all n p ≡ []
none_opened all zero p h = refl
none_opened all (suc n) p h =
    ap (λ os. os ++ opened_from all n (p + 1)) (none_by p (all p) (h p (omega arith) (omega arith)))
    ∙ none_opened all n (p + 1) (λ q low high. h q (omega (arith, low)) (omega (arith, high)))
