use Rattle.std.proofs.Common.{drop, map}
use Rattle.sj_end.specs.Lines.{line_at}
use Rattle.sj_lang.specs.FileView.{file_of}
use Rattle.sj_print.specs.LogLine.{log_text}
use Rattle.sj_text.proofs.CutLemmas.{StillTo}
use Rattle.sj_join.proofs.sources.put_lines.Given as goal

-- what is ahead is the lines that are left
abbrev pub invariant-loop-line : goal.invariant-loop-line
invariant-loop-line l = StillTo l.fn.text.items (log_text (file_of l.file) (map line_at l.lines)) (log_text (file_of l.file) (map line_at (drop l.line-index l.lines))) l.text.items
