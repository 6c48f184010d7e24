use Rattle.std.proofs.Common.{drop, map}
use Rattle.sj_lang.specs.FileView.{file_of, party_of}
use Rattle.sj_plain.specs.Plain.{world_at}
use Rattle.sj_semantics.specs.Transcript.{party_lines}
use Rattle.sj_text.proofs.CutLemmas.{StillTo}
use Rattle.sj_print.proofs.transcript.put_parties.Given as goal

-- what is ahead is the parties that are left
abbrev pub invariant-loop-i : goal.invariant-loop-i
invariant-loop-i l =
    StillTo l.fn.text.items (party_lines (file_of l.file) (world_at l.plain) 0 (file_of l.file).parties (world_at l.plain).parties)
    (party_lines (file_of l.file) (world_at l.plain) l.i (drop l.i (map party_of l.file.parties.items)) (drop l.i (world_at l.plain).parties)) l.text.items
