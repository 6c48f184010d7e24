use Rattle.std.proofs.Common.{◌≡◌, drop}
use Rattle.std.specs.List.{list_all}
use Rattle.sj_join.specs.Texts.{has_all_if}
use Rattle.sj_streams.specs.Views.{came_view}
use Rattle.sj_join.proofs.texts.has_all.Given as goal

abbrev pub invariant-loop-one : goal.invariant-loop-one
invariant-loop-one l = list_all (λ c. has_all_if l.party (came_view c)) (drop l.one-index l.came) ≡ list_all (λ c. has_all_if l.party (came_view c)) l.came
