use Rattle.std.proofs.Common.{◌≡◌, ◌++◌, drop, map}
use Rattle.sj_lang.specs.FileView.{file_of, party_of}
use Rattle.sj_plain.specs.Plain.{world_at}
use Rattle.sj_semantics.specs.Transcript.{party_lines}
use Rattle.sj_join.proofs.now.put_old.Given as goal

-- all lines are those that are written and those of the parties that are left
abbrev pub invariant-loop-i : goal.invariant-loop-i
invariant-loop-i l =
    l.fn.text.items ++ party_lines (file_of l.file) (world_at l.plain) 0 (file_of l.file).parties (world_at l.plain).parties
    ≡ l.text.items ++ party_lines (file_of l.file) (world_at l.plain) l.i (drop l.i (map party_of l.file.parties.items)) (drop l.i (world_at l.plain).parties)
