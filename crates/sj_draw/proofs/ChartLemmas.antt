-- Arrows that stay where a log begins.
use Rattle.std.proofs.Common.{◌≡◌, Bool, true, false, List, [], ◌∷◌, map, cond, is_none, refl, ap, ◌∙◌}
use Rattle.std.specs.List.{filter}
use Rattle.sj_draw.specs.declared.chart.Arrow.{Arrow}
use Rattle.sj_draw.specs.Chart.{ArrowAt, is_untaken}
use Rattle.sj_draw.specs.Views.{arrow_at}

by_test : (b : Bool) (x : Arrow) (ys : List Arrow) (zs : List ArrowAt) → map arrow_at ys ≡ zs → map arrow_at (cond b (x ∷ ys) ys) ≡ cond b (arrow_at x ∷ zs) zs
by_test true x ys zs e = ap (λ ts. arrow_at x ∷ ts) e
by_test false x ys zs e = e

same_filter : (xs : List Arrow) → map arrow_at (filter (λ (a : Arrow). is_none a.to) xs) ≡ filter is_untaken (map arrow_at xs)
same_filter [] = refl
same_filter (x ∷ xs) = by_test (is_none x.to) x (filter (λ (a : Arrow). is_none a.to) xs) (filter is_untaken (map arrow_at xs)) (same_filter xs)

pub untaken_stay : (xs ys : List Arrow) → ys ≡ filter (λ (a : Arrow). is_none a.to) xs → map arrow_at ys ≡ filter is_untaken (map arrow_at xs)
untaken_stay xs ys e = ap (λ ts. map arrow_at ts) e ∙ same_filter xs
