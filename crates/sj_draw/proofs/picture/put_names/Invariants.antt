use Rattle.std.proofs.Common.{◌≡◌, ◌++◌, ℕ, List, map, drop, Bor}
use Rattle.sj_draw.specs.Drawn.{names_text}
use Rattle.sj_draw.proofs.picture.put_names.Given as goal

-- with what is left it is the whole
abbrev pub invariant-loop-i : goal.invariant-loop-i
invariant-loop-i l =
    l.text.items ++ names_text l.base (map (λ (n : Bor (List ℕ)). n.now) l.names) l.i (map (λ (n : Bor (List ℕ)). n.now) (drop l.i l.names))
    ≡ l.fn.text.items ++ names_text l.base (map (λ (n : Bor (List ℕ)). n.now) l.names) 0 (map (λ (n : Bor (List ℕ)). n.now) l.names)
