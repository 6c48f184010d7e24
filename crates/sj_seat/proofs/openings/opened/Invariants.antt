use Rattle.std.proofs.Common.{◌≡◌, ◌++◌, drop}
use Rattle.sj_lang.specs.FileView.{file_of}
use Rattle.sj_seat_laws.specs.SeatedStart.{openings_by}
use Rattle.sj_seat.specs.Opened.{found_of, opened_at}
use Rattle.sj_seat.proofs.openings.opened.Given as goal

-- with those in what is left they are all
abbrev pub invariant-loop-statement : goal.invariant-loop-statement
invariant-loop-statement l = opened_at l.table l.all.items ++ openings_by (file_of l.file) (found_of (drop l.statement-index l.found)) ≡ openings_by (file_of l.file) (found_of l.found)
