use Rattle.std.proofs.Common.{drop}
use Rattle.sj_lang.specs.FileView.{file_of}
use Rattle.sj_text.proofs.CutLemmas.{StillTo}
use Rattle.sj_seat_told.specs.Opened.{told_sessions_lines}
use Rattle.sj_seat_told.proofs.openings.put_opened.Given as goal

-- what is ahead is the sessions that are left
abbrev pub invariant-loop-session : goal.invariant-loop-session
invariant-loop-session l =
    StillTo l.fn.text.items (told_sessions_lines (file_of l.file) l.ends l.opened) (told_sessions_lines (file_of l.file) l.ends (drop l.session-index l.opened)) l.text.items
