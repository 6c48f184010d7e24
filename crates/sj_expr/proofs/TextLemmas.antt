-- A text begins and ends with a quote.
use Rattle.std.proofs.Common.{◌≡◌, ℕ, suc, ◌-◌, ◌<◌, ◌≤◌, Bool, true, false, List, [], ◌∷◌, ◌++◌, length, get_or, take, drop, refl, ap, sym, ◌∙◌, arith, length-drop, drop-cons}
use Rattle.std.specs.Prelude.{nat_eq}
use Rattle.std.proofs.lemmas.Bool.{eqb-true, eqb-false}
use Rattle.std.specs.Str.{bytes_eq}
use Rattle.std.proofs.Math.Seq.{get_or-append_seam}
use Rattle.std.proofs.lemmas.List.{take-append-drop}
use Rattle.sj_grammar.specs.Literals.{quoted, inner}
use Rattle.sj_expr.proofs.TokenLemmas.{long_by_one}
use Rattle.sj_expr.proofs.TestLemmas.{bytes_same, bytes_are}

none_left : (t : List ℕ) → length t ≡ 0 → t ≡ []
none_left [] e = refl
none_left (b ∷ t) e = absurd (omega arith)

last_alone : (t : List ℕ) (k : ℕ) → length t ≡ suc k → take k t ++ get_or t k 0 ∷ [] ≡ t
last_alone t k e =
    let within : k < length t = omega arith in
    let rest : drop (suc k) t ≡ [] = none_left (drop (suc k) t) (omega (arith, length-drop (suc k) t)) in
    ap (λ (x : List ℕ). take k t ++ x) (sym (drop-cons t k 0 within ∙ ap (λ (x : List ℕ). get_or t k 0 ∷ x) rest)) ∙ take-append-drop k t

-- and is what stands between, in quotes
pub between_quotes : (s : List ℕ) → 2 ≤ length s → get_or s 0 0 ≡ 34 → get_or s (length s - 1) 0 ≡ 34 → s ≡ quoted (inner s)
between_quotes [] h first last = absurd (omega arith)
between_quotes (b ∷ []) h first last = absurd (omega arith)
between_quotes (b ∷ c ∷ t) h first last =
    let k = length t in
    let long : length (b ∷ c ∷ t) - 1 ≡ suc k = omega arith in
    let inside : inner (b ∷ c ∷ t) ≡ take k (c ∷ t) = ap (λ (n : ℕ). drop 1 (take n (b ∷ c ∷ t))) long in
    let end : get_or (c ∷ t) k 0 ≡ 34 = sym (ap (λ (n : ℕ). get_or (b ∷ c ∷ t) n 0) long) ∙ last in
    let whole : take k (c ∷ t) ++ 34 ∷ [] ≡ c ∷ t = ap (λ (x : ℕ). take k (c ∷ t) ++ x ∷ []) (sym end) ∙ last_alone (c ∷ t) k refl in
    (λ i. first i ∷ c ∷ t) ∙ ap (λ (x : List ℕ). 34 ∷ x) (sym whole) ∙ ap quoted (sym inside)

-- what is in quotes has them
pub quotes_are : (s : List ℕ) → s ≡ quoted (inner s) → (2 ≤ length s) × (get_or s 0 0 ≡ 34) × (get_or s (length s - 1) 0 ≡ 34)
quotes_are s e =
    let t = inner s in
    let long : length s ≡ suc (suc (length t)) = ap length e ∙ ap (λ x. suc x) (long_by_one t 34) in
    let place : length s - 1 ≡ suc (length t) = omega arith in
    (omega arith, ap (λ (x : List ℕ). get_or x 0 0) e, (λ i. get_or (e i) (place i) 0) ∙ get_or-append_seam t 34 [] 0)

pub are_quoted : (s : List ℕ) → 2 ≤ length s → get_or s 0 0 ≡ 34 → get_or s (length s - 1) 0 ≡ 34 → bytes_eq s (quoted (inner s)) ≡ true
are_quoted s h first last = bytes_are s (quoted (inner s)) (between_quotes s h first last)

pub not_quoted : (s : List ℕ) → ((2 ≤ length s) × (get_or s 0 0 ≡ 34) × (get_or s (length s - 1) 0 ≡ 34) → ⊥) → bytes_eq s (quoted (inner s)) ≡ false
not_quoted s fails = by_test (bytes_eq s (quoted (inner s))) refl
  where
    by_test : (b : Bool) → bytes_eq s (quoted (inner s)) ≡ b → b ≡ false
    by_test true e = absurd (fails (quotes_are s (bytes_same s (quoted (inner s)) e)))
    by_test false e = refl

-- after a first quote the last byte decides
pub last_decides : (s : List ℕ) → 2 ≤ length s → get_or s 0 0 ≡ 34 → nat_eq (get_or s (length s - 1) 0) 34 ≡ bytes_eq s (quoted (inner s))
last_decides s h first = by_test (nat_eq (get_or s (length s - 1) 0) 34) refl
  where
    by_test : (b : Bool) → nat_eq (get_or s (length s - 1) 0) 34 ≡ b → b ≡ bytes_eq s (quoted (inner s))
    by_test true e = sym (are_quoted s h first (eqb-true (get_or s (length s - 1) 0) 34 e))
    by_test false e = sym (not_quoted s (λ q. eqb-false (get_or s (length s - 1) 0) 34 e q.2))
