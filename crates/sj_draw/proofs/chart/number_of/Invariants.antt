use Rattle.std.proofs.Common.{◌≡◌, ◌+◌, ℕ, List, map, drop, Bor}
use Rattle.sj_draw.specs.Chart.{number_of}
use Rattle.sj_draw.proofs.chart.number_of.Given as goal

-- none of those before is of that name
abbrev pub invariant-loop-i : goal.invariant-loop-i
invariant-loop-i l = number_of (map (λ (p : Bor (List ℕ)). p.now) l.parties) l.name ≡ number_of (map (λ (p : Bor (List ℕ)). p.now) (drop l.i l.parties)) l.name + l.i
