use Rattle.std.proofs.Common.{◌≡◌, ◌==◌, drop}
use Rattle.std.specs.List.{list_all}
use Rattle.sj_join.proofs.logs.are_of.Given as goal

abbrev pub invariant-loop-line : goal.invariant-loop-line
invariant-loop-line l = list_all (λ k. k.party == l.party) (drop l.line-index l.lines) ≡ list_all (λ k. k.party == l.party) l.lines
