-- A party's line and those after it.
use Rattle.std.proofs.Common.{◌≡◌, ◌+◌, ◌<◌, ◌++◌, ℕ, List, [], ◌∷◌, Bor, length, map, drop, arith}
use Rattle.std.proofs.lemmas.List.{at_drop_more}
use Rattle.sj_draw.specs.declared.layout.Layout.{Layout}
use Rattle.sj_draw.specs.Columns.{x_of}
use Rattle.sj_draw.specs.Drawn.{line_text, lines_text}

pub one_more_line : (l : Layout) (all : List (List ℕ)) (i : ℕ) (xs : List (Bor (List ℕ))) → i < length xs
    → lines_text l all i (map (λ (n : Bor (List ℕ)). n.now) (drop i xs)) ≡ line_text l (x_of l.base all i) ++ lines_text l all (i + 1) (map (λ (n : Bor (List ℕ)). n.now) (drop (i + 1) xs))
one_more_line l all i [] less = absurd (omega (arith, less))
one_more_line l all i (x ∷ xs) less = at_drop_more (λ ys. lines_text l all i (map (λ (n : Bor (List ℕ)). n.now) ys)) (x ∷ xs) i x less
