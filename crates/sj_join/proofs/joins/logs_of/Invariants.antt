use Rattle.std.proofs.Common.{map, take}
use Rattle.sj_join.specs.Joins.{AreLogsFrom}
use Rattle.sj_lang.specs.FileView.{file_of}
use Rattle.sj_join.proofs.joins.logs_of.Given as goal

abbrev pub invariant-loop-party : goal.invariant-loop-party
invariant-loop-party l = AreLogsFrom (file_of l.file) 0 (map (λ t. t.items) (take l.party l.texts)) l.logs.items
