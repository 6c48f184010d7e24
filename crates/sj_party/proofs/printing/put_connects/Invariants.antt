use Rattle.std.proofs.Common.{drop}
use Rattle.std.specs.Prelude.{map}
use Rattle.sj_text.proofs.CutLemmas.{StillTo}
use Rattle.sj_lang.specs.FileView.{connect_of}
use Rattle.sj_party.specs.CanonicalExpression.{spelling_of}
use Rattle.sj_party.specs.CanonicalFile.{connects_text}
use Rattle.sj_party.proofs.printing.put_connects.Given as goal

abbrev pub invariant-loop-connect : goal.invariant-loop-connect
invariant-loop-connect l =
    StillTo l.fn.text.items (connects_text (spelling_of l.names) (map connect_of l.connects)) (connects_text (spelling_of l.names) (map connect_of (drop l.connect-index l.connects))) l.text.items
