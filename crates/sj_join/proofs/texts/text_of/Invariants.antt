use Rattle.std.proofs.Common.{◌≡◌, take, map}
use Rattle.sj_join.specs.Texts.{text_by}
use Rattle.sj_streams.specs.Views.{came_view}
use Rattle.sj_join.proofs.texts.text_of.Given as goal

abbrev pub invariant-loop-stream : goal.invariant-loop-stream
invariant-loop-stream l = l.text.items ≡ text_by (map came_view (take l.stream-index l.came)) l.party
