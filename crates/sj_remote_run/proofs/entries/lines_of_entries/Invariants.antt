use Rattle.std.proofs.Common.{◌≡◌, ◌++◌, drop}
use Rattle.sj_lang.specs.FileView.{file_of}
use Rattle.sj_remote_run.specs.Entries.{lines_text}
use Rattle.sj_remote_run.proofs.entries.lines_of_entries.Given as goal

-- all lines are those that are written and those of the entries that are left
abbrev pub invariant-loop-entry : goal.invariant-loop-entry
invariant-loop-entry l = lines_text (file_of l.file) l.party l.entries ≡ l.text.items ++ lines_text (file_of l.file) l.party (drop l.entry-index l.entries)
