use Rattle.std.proofs.Common.{◌≡◌, ◌++◌, codes, drop, map}
use Rattle.sj_lang.specs.FileView.{file_of}
use Rattle.sj_semantics.specs.Lines.{name_of}
use Rattle.sj_tool.specs.ForestTexts.{spaced_line}
use Rattle.sj_tool.proofs.forests.left_text.Given as goal

abbrev pub invariant-loop-party : goal.invariant-loop-party
invariant-loop-party l =
    codes "forest no" ++ spaced_line (map (name_of (file_of l.file)) l.parties) ≡ l.text.items ++ spaced_line (map (name_of (file_of l.file)) (drop l.party-index l.parties))
