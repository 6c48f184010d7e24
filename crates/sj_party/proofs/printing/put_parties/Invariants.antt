use Rattle.std.proofs.Common.{drop}
use Rattle.std.specs.Prelude.{map}
use Rattle.sj_text.proofs.CutLemmas.{StillTo}
use Rattle.sj_lang.specs.FileView.{party_of}
use Rattle.sj_party.specs.CanonicalExpression.{spelling_of}
use Rattle.sj_party.specs.CanonicalFile.{parties_text}
use Rattle.sj_party.proofs.printing.put_parties.Given as goal

abbrev pub invariant-loop-party : goal.invariant-loop-party
invariant-loop-party l =
    StillTo l.fn.text.items (parties_text (spelling_of l.names) (map party_of l.parties)) (parties_text (spelling_of l.names) (map party_of (drop l.party-index l.parties))) l.text.items
