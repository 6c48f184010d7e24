-- Lists that are copied one element after another.
use Rattle.std.proofs.Common.{◌≡◌, ℕ, zero, suc, ◌+◌, ◌<◌, List, [], ◌∷◌, ◌++◌, map, length, take, get_or, ap, sym, ◌∙◌, arith}
use Rattle.std.proofs.lemmas.List.{map-append}

map_suc : {X Y : Type 0} (view : X → Y) (xs : List X) (i : ℕ) (x : X) → i < length xs → x ≡ get_or xs i x → map view (take (suc i) xs) ≡ map view (take i xs) ++ view x ∷ []
map_suc view [] i x lt h = absurd (omega arith)
map_suc view (a ∷ xs) zero x lt h = ap (λ t. view t ∷ []) (sym h)
map_suc view (a ∷ xs) (suc i) x lt h = ap (λ t. view a ∷ t) (map_suc view xs i x (omega arith) h)

-- one more element that is seen as the one at its index
pub map_next : {X Y : Type 0} (view : X → Y) (xs out : List X) (i : ℕ) (x y : X) → i < length xs → x ≡ get_or xs i x → view y ≡ view x → map view out ≡ map view (take i xs) → map view (out ++ y ∷ []) ≡ map view (take (i + 1) xs)
map_next view xs out i x y lt h same so_far =
    map-append view out (y ∷ [])
    ∙ (λ j. so_far j ++ same j ∷ [])
    ∙ sym (map_suc view xs i x lt h)
    ∙ ap (λ n. map view (take n xs)) (let e : suc i ≡ i + 1 = omega arith in e)
