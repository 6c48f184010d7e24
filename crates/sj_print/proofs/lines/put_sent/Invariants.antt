use Rattle.std.proofs.Common.{drop}
use Rattle.sj_lang.specs.FileView.{file_of}
use Rattle.sj_semantics.specs.Transcript.{sent_lines}
use Rattle.sj_text.proofs.CutLemmas.{StillTo}
use Rattle.sj_print.proofs.lines.put_sent.Given as goal

-- what is ahead is the lines of the messages that are left
abbrev pub invariant-loop-i : goal.invariant-loop-i
invariant-loop-i l =
    StillTo l.fn.text.items (sent_lines (file_of l.file) l.end.sess l.end.side 0 l.sent l.takers)
    (sent_lines (file_of l.file) l.end.sess l.end.side l.i (drop l.i l.sent) (drop l.i l.takers)) l.text.items
