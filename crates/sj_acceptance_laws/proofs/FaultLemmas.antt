-- Lists of tests that all pass.
use Rattle.std.proofs.Common.{◌≡◌, ℕ, List, [], ◌∷◌, ◌++◌, Some, None, Bool, true, false, ◌&&◌, ◌||◌, cond, refl, ap, ◌∙◌}
use Rattle.std.proofs.Common as common
use Rattle.sj_acceptance.specs.Faults.{Test, first_fault}

-- the test in front passes, and the others do
pub first_passes : (r l : ℕ) (b : Bool) (ts : List Test) → first_fault ((r, l, b) ∷ ts) ≡ None → (b ≡ true) × (first_fault ts ≡ None)
first_passes r l true ts h = (refl, h)
first_passes r l false ts h = absurd (cc)

pub all_pass : (xs ys : List Test) → first_fault (xs ++ ys) ≡ None → (first_fault xs ≡ None) × (first_fault ys ≡ None)
all_pass [] ys h = (refl, h)
all_pass (x ∷ xs) ys h =
    let p = first_passes x.0 x.1 x.2 (xs ++ ys) h in
    let q = all_pass xs ys p.1 in
    (ap (λ b. cond b (first_fault xs) (Some (x.0, x.1))) p.0 ∙ q.0, q.1)

pub pass_both : (xs ys : List Test) → first_fault xs ≡ None → first_fault ys ≡ None → first_fault (xs ++ ys) ≡ None
pass_both [] ys g h = h
pass_both (x ∷ xs) ys g h =
    let p = first_passes x.0 x.1 x.2 xs g in
    ap (λ b. cond b (first_fault (xs ++ ys)) (Some (x.0, x.1))) p.0 ∙ pass_both xs ys p.1 h

pub both_true : (x y : Bool) → (x && y) ≡ true → (x ≡ true) × (y ≡ true)
both_true true y h = (refl, h)
both_true false y h = absurd (cc)

-- what isn't so by a test is so by its opposite
pub not_true : (b : Bool) → common.not b ≡ true → b ≡ false
not_true true h = absurd (cc)
not_true false h = refl

-- neither of two holds
pub neither : (b c : Bool) → (b || c) ≡ false → (b ≡ false) × (c ≡ false)
neither true c h = absurd (cc)
neither false c h = (refl, h)
