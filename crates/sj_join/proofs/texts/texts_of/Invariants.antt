use Rattle.std.proofs.Common.{◌≡◌, ◌<◌, ℕ, map, true}
use Rattle.sj_join.specs.Texts.{has_all, texts_by}
use Rattle.sj_streams.specs.Views.{came_view}
use Rattle.sj_join.proofs.texts.texts_of.Given as goal

abbrev pub invariant-loop-party : goal.invariant-loop-party
invariant-loop-party l = record {
  texts : map (λ t. t.items) l.texts.items ≡ texts_by (map came_view l.came) l.party;
  all : (party : ℕ) → party < l.party → has_all (map came_view l.came) party ≡ true;
}
