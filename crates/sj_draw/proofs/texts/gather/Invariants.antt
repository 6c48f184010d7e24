use Rattle.std.proofs.Common.{◌≡◌, ◌+◌, ℕ, List, map, drop, Bor, true}
use Rattle.sj_draw.specs.Chart.{empty, gathered, is_within}
use Rattle.sj_draw.specs.Views.{chart_at}
use Rattle.sj_draw.proofs.texts.gather.Given as goal

-- what comes of the lines that are left comes of all
abbrev pub invariant-loop-i : goal.invariant-loop-i
invariant-loop-i l = record {
  same : gathered empty 1 (map (λ (x : Bor (List ℕ)). x.now) l.lines) ≡ gathered (chart_at l.chart) (l.i + 1) (map (λ (x : Bor (List ℕ)). x.now) (drop l.i l.lines));
  within : is_within (chart_at l.chart) ≡ true;
}
