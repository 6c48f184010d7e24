use Rattle.std.proofs.Common.{◌≤◌, drop, length, map}
use Rattle.sj_lang.specs.FileView.{file_of, connect_of}
use Rattle.sj_semantics.specs.Transcript.{session_lines}
use Rattle.sj_semantics.specs.World.{World}
use Rattle.sj_text.proofs.CutLemmas.{StillTo}
use Rattle.sj_told.specs.Told.{AreEnds}
use Rattle.sj_print.specs.Parts.{IsPutAfter}
use Rattle.sj_print.proofs.told.put_ends.Given as goal

-- the text before stays, and what is ahead is the sessions that are left
abbrev pub invariant-loop-i : goal.invariant-loop-i
invariant-loop-i l =
    IsPutAfter l.fn.text.items l.text.items × ((w : World) → length (file_of l.file).connects ≤ length w.sessions → AreEnds (file_of l.file) w l.ends
    → StillTo l.fn.text.items (session_lines (file_of l.file) 0 (file_of l.file).connects w.sessions)
    (session_lines (file_of l.file) l.i (drop l.i (map connect_of l.file.connects.items)) (drop l.i w.sessions)) l.text.items)
