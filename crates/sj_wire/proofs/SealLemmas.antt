-- How the parts of a frame join.
use Rattle.std.proofs.Common.{◌≡◌, ℕ, ◌≤◌, List, [], ◌++◌, length, take, drop, refl, ap, subst, ◌∙◌, arith}
use Rattle.std.proofs.lemmas.List.{append-nil, drop_at, drop_all, length-append, take_all}
use Rattle.sj_rules.specs.Frames.{FrameAt}
use Rattle.sj_wire.specs.Lawful.{cached_in}
use Rattle.sj_wire.specs.Limits.{most_cached}
use Rattle.sj_wire.specs.Spelling.{number, inside, framed, spelling}
use Rattle.sj_wire.proofs.NumberLemmas.{length-number}
use Rattle.sj_wire.proofs.LengthLemmas.{length-inside}

-- two pieces, put into nothing
pub two : (a b : List ℕ) {o x1 x2 : List ℕ} → o ≡ [] → x1 ≡ o ++ a → x2 ≡ x1 ++ b → x2 ≡ a ++ b
two a b none p1 p2 = rw (p2, p1, none) refl

-- the bytes before their length is known have room for it, and aren't too many
pub sizes : {P : Type 0} (f : FrameAt P) (bytes : List ℕ) → cached_in f.body ≤ most_cached → bytes ≡ number 4 0 ++ inside f → (4 ≤ length bytes) × (length bytes ≤ 2097156)
sizes f bytes short is =
    let l = length-inside f short in
    let a = length-append (number 4 0) (inside f) in
    let n = length-number 4 0 in
    (rw is (omega (arith, a, n)), rw is (omega (arith, a, n, l.1)))

-- the bytes once it is there
pub sealed : {P : Type 0} (f : FrameAt P) (bytes buf new : List ℕ) (len : ℕ) → bytes ≡ number 4 0 ++ inside f → buf ≡ bytes → length buf ≡ len → new ≡ framed (drop 4 buf) → take len (new ++ drop (length new) bytes) ≡ spelling f
unfolding framed spelling
sealed f bytes buf new len is same buf-size buf-new =
    let size : length bytes ≡ len = subst (λ (t : List ℕ). length t ≡ len) same buf-size in
    let new-is : new ≡ framed (drop 4 bytes) = subst (λ (t : List ℕ). new ≡ framed (drop 4 t)) same buf-new in
    let n = length-number 4 0 in
    let m = length-number 4 (length (inside f)) in
    let rest : drop 4 bytes ≡ inside f = rw is (drop_at (number 4 0) (inside f) 4 n) in
    let whole : new ≡ number 4 (length (inside f)) ++ inside f = rw (← rest) new-is in
    let long : length new ≡ length bytes = rw (whole, is) (omega (arith, m, n, length-append (number 4 (length (inside f))) (inside f), length-append (number 4 0) (inside f))) in
    let none : drop (length new) bytes ≡ [] = drop_all (length new) bytes (omega (arith, long)) in
    ap (take len) (ap (λ (t : List ℕ). new ++ t) none ∙ append-nil new) ∙ take_all len new (omega (arith, long, size)) ∙ whole
