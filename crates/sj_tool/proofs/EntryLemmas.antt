-- The text of an entry, without the end of its line.
use Rattle.std.proofs.Common.{◌≡◌, ◌∙◌, ◌<◌, ℕ, List, [], ◌∷◌, ◌++◌, Option, Some, None, length, refl, sym, ap, subst, arith, append_assoc, length-append}
use Rattle.std.specs.Prelude.{IsSome}
use Rattle.std.specs.Option.{option_to_list}
use Rattle.sj_semantics.specs.Transcript.{line_of}
use Rattle.sj_tool.specs.Entries.{spaced}

-- a line is its words, and then its end
pub line_spaced : (ws : List (List ℕ)) → line_of ws ≡ spaced ws ++ 10 ∷ []
line_spaced [] = refl
line_spaced (x ∷ []) = refl
line_spaced (x ∷ y ∷ ws) = ap (λ t. x ++ 32 ∷ t) (line_spaced (y ∷ ws)) ∙ sym (append_assoc x (32 ∷ spaced (y ∷ ws)) (10 ∷ []))

-- what is left without the last
same_front : (xs ys : List ℕ) (a b : ℕ) → xs ++ a ∷ [] ≡ ys ++ b ∷ [] → xs ≡ ys
same_front [] [] a b e = refl
same_front [] (y ∷ []) a b e = absurd (cc e)
same_front [] (y ∷ z ∷ ys) a b e = absurd (cc e)
same_front (x ∷ []) [] a b e = absurd (cc e)
same_front (x ∷ z ∷ xs) [] a b e = absurd (cc e)
same_front (x ∷ xs) (y ∷ ys) a b e =
    let first : x ≡ y = cc e in
    let rest : xs ++ a ∷ [] ≡ ys ++ b ∷ [] = cc e in
    ap (λ z. z ∷ xs) first ∙ ap (λ zs. y ∷ zs) (same_front xs ys a b rest)

some_length : (old xs : List ℕ) (x : ℕ) → 0 < length (old ++ (xs ++ x ∷ []))
some_length old xs x = omega (arith, length-append old (xs ++ x ∷ []), length-append xs (x ∷ []))

-- a line that was put and whose end was taken out
pub line_popped : (old all left : List ℕ) (ws : List (List ℕ)) (last : Option ℕ) → all ≡ old ++ line_of ws → all ≡ left ++ option_to_list last → (0 < length all → IsSome last) → left ≡ old ++ spaced ws
line_popped old all left ws None put popped some =
    absurd (cc (some (subst (λ (xs : List ℕ). 0 < length xs) (sym (put ∙ ap (λ t. old ++ t) (line_spaced ws))) (some_length old (spaced ws) 10))))
line_popped old all left ws (Some x) put popped some =
    sym (same_front (old ++ spaced ws) left 10 x (append_assoc old (spaced ws) (10 ∷ []) ∙ ap (λ t. old ++ t) (sym (line_spaced ws)) ∙ sym put ∙ popped))
