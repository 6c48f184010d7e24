use Rattle.std.proofs.Common.{drop}
use Rattle.std.specs.Prelude.{map}
use Rattle.sj_text.proofs.CutLemmas.{StillTo}
use Rattle.sj_lang.specs.FileView.{protocol_of}
use Rattle.sj_party.specs.CanonicalExpression.{spelling_of}
use Rattle.sj_party.specs.CanonicalFile.{protocols_text}
use Rattle.sj_party.proofs.printing.put_protocols.Given as goal

abbrev pub invariant-loop-p : goal.invariant-loop-p
invariant-loop-p l =
    StillTo l.fn.text.items (protocols_text (spelling_of l.names) (map protocol_of l.protocols)) (protocols_text (spelling_of l.names) (map protocol_of (drop l.p-index l.protocols))) l.text.items
