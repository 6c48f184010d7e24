use Rattle.std.proofs.Common.{◌≡◌, ◌+◌, ◌≤◌, length, map}
use Rattle.std.specs.Prelude.{◌==◌}
use Rattle.std.specs.List.{slice_split}
use Rattle.sj_lang.specs.FileView.{file_of}
use Rattle.sj_end.specs.Lines.{line_at}
use Rattle.sj_log.specs.LogText.{log_read, lines_read}
use Rattle.sj_log.proofs.LogLemmas.{behind}
use Rattle.sj_log.proofs.lines.read_log.Given as goal

abbrev pub invariant-loop-left : goal.invariant-loop-left
invariant-loop-left l = record {
  short : l.number + length l.left ≤ 16777217;
  so_far : log_read l.version (file_of l.file) l.bytes ≡ behind (map line_at l.lines.items) (lines_read l.version (file_of l.file) l.number (slice_split (λ b. b == 10) l.left));
}

abbrev pub decreases-loop-left : goal.decreases-loop-left
decreases-loop-left l = length l.left
