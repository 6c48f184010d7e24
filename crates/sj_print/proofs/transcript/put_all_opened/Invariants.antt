use Rattle.std.proofs.Common.{drop}
use Rattle.sj_lang.specs.FileView.{file_of}
use Rattle.sj_plain.specs.Plain.{world_at}
use Rattle.sj_semantics.specs.Transcript.{opened_lines}
use Rattle.sj_text.proofs.CutLemmas.{StillTo}
use Rattle.sj_print.proofs.transcript.put_all_opened.Given as goal

-- what is ahead is the sessions that are left
abbrev pub invariant-loop-opened : goal.invariant-loop-opened
invariant-loop-opened l =
    StillTo l.fn.text.items (opened_lines (file_of l.file) (world_at l.plain).sessions l.all)
    (opened_lines (file_of l.file) (world_at l.plain).sessions (drop l.opened-index l.all)) l.text.items
