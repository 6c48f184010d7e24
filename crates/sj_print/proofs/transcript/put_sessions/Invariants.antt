use Rattle.std.proofs.Common.{drop, map}
use Rattle.sj_lang.specs.FileView.{file_of, connect_of}
use Rattle.sj_plain.specs.Plain.{world_at}
use Rattle.sj_semantics.specs.Transcript.{session_lines}
use Rattle.sj_text.proofs.CutLemmas.{StillTo}
use Rattle.sj_print.proofs.transcript.put_sessions.Given as goal

-- what is ahead is the sessions that are left
abbrev pub invariant-loop-i : goal.invariant-loop-i
invariant-loop-i l =
    StillTo l.fn.text.items (session_lines (file_of l.file) 0 (file_of l.file).connects (world_at l.plain).sessions)
    (session_lines (file_of l.file) l.i (drop l.i (map connect_of l.file.connects.items)) (drop l.i (world_at l.plain).sessions)) l.text.items
