use Rattle.std.proofs.Common.{drop, map}
use Rattle.sj_lang.specs.FileView.{file_of, party_of}
use Rattle.sj_text.proofs.CutLemmas.{StillTo}
use Rattle.sj_told.specs.Standing.{standing_lines}
use Rattle.sj_print.specs.Parts.{stand_lines}
use Rattle.sj_print.proofs.told.put_stands.Given as goal

-- what is ahead is the parties that are left
abbrev pub invariant-loop-i : goal.invariant-loop-i
invariant-loop-i l =
    StillTo l.fn.text.items (stand_lines (file_of l.file) l.stands)
    (standing_lines (file_of l.file) (drop l.i (map party_of l.file.parties.items)) (drop l.i (map (λ s. s.steps) l.stands)) (drop l.i (map (λ s. s.state) l.stands))) l.text.items
