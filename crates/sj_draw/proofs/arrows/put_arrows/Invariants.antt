use Rattle.std.proofs.Common.{◌≡◌, ◌++◌, ℕ, List, Bor, map, drop}
use Rattle.sj_draw.specs.Drawn.{arrows_text}
use Rattle.sj_draw.specs.Views.{arrow_at}
use Rattle.sj_draw.proofs.arrows.put_arrows.Given as goal

-- with what is left it is the whole
abbrev pub invariant-loop-k : goal.invariant-loop-k
invariant-loop-k l =
    l.text.items ++ arrows_text l.base (map (λ (n : Bor (List ℕ)). n.now) l.names) l.k (map arrow_at (drop l.k l.arrows))
    ≡ l.fn.text.items ++ arrows_text l.base (map (λ (n : Bor (List ℕ)). n.now) l.names) 0 (map arrow_at l.arrows)
