-- What is left of a list without its last items, and what waits in a ring after what was popped.
use Rattle.std.proofs.Common.{zero, suc, ◌≡◌, ℕ, ◌+◌, ◌-◌, List, [], ◌∷◌, ◌++◌, length, take, drop, refl, sym, ap, ◌∙◌, arith, append-nil, append_assoc}
use Rattle.std.proofs.lemmas.List.{length-append, take-append-drop}
use Rattle.std.proofs.Math.Seq.{take-append_seam}
use mathlib.Core.List.{IsPrefix}
use Rattle.sj_lane.specs.Rings.{without_last}

-- it is a front
pub without_front : {X : Type 0} (k : ℕ) (xs : List X) → IsPrefix (without_last k xs) xs
without_front zero xs = ([], append-nil xs)
without_front (suc k) xs = (drop (length xs - suc k) xs, take-append-drop (length xs - suc k) xs)

-- without what stands after it, a list is what it was
pub without_back : {X : Type 0} (xs ys : List X) → without_last (length ys) (xs ++ ys) ≡ xs
without_back xs [] = append-nil xs
without_back xs (y ∷ ys) =
    let n : length (xs ++ y ∷ ys) ≡ length xs + suc (length ys) = length-append xs (y ∷ ys) in
    let k : length (xs ++ y ∷ ys) - suc (length ys) ≡ length xs = omega (arith, n) in
    ap (λ j. take j (xs ++ y ∷ ys)) k ∙ take-append_seam xs (y ∷ ys)

-- a prefix of what was received is one of what was sent
pub fed_by : {X : Type 0} (k : ℕ) (old new known past now : List X) → new ≡ old → now ≡ past → new ++ known ≡ now → IsPrefix (without_last k old) past
fed_by k old new known past now a b all =
    let w = without_front k old in
    (w.0 ++ known, sym (append_assoc (without_last k old) w.0 known) ∙ ap (λ l. l ++ known) (w.1 ∙ sym a) ∙ all ∙ b)
