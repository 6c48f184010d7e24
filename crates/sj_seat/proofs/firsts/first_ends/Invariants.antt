use Rattle.std.proofs.Common.{◌≡◌, map, take}
use Rattle.sj_lang.specs.FileView.{file_of}
use Rattle.sj_semantics.specs.Ends.{end_at}
use Rattle.sj_semantics.specs.World.{start_of}
use Rattle.sj_seat.specs.Holding.{ends_at}
use Rattle.sj_seat.proofs.firsts.first_ends.Given as goal

abbrev pub invariant-loop-entry : goal.invariant-loop-entry
invariant-loop-entry l = ends_at l.table l.ends.items ≡ map (λ b. (b.1, (end_at (start_of (file_of l.file)).sessions b.1).place)) (take l.entry-index l.entry-items)
