-- A text has one first fault.
use Rattle.std.proofs.Common.{◌≡◌, ◌∙◌, ℕ, List, [], Some, ap, sym}
use Rattle.sj_grammar.specs.declared.tokens.Fault.{Fault}
use Rattle.sj_lang.specs.Limits.{limits}
use Rattle.sj_grammar.specs.Positions.{start}
use Rattle.sj_grammar.specs.Lexis.{next_of}
use Rattle.sj_grammar.specs.Reading.{fault_at, before_next}
use Rattle.sj_grammar.specs.FileDues.{file_layer, file_due}
use Rattle.sj_grammar.specs.Faults.{Stuck}
use Rattle.sj_grammar.proofs.ReadingLemmas.{halts_there, halts_at_token}

-- a text has one first fault
pub one_fault : (bytes : List ℕ) (f g : Fault) → Stuck file_layer limits 0 (start bytes [] []) file_due f → Stuck file_layer limits 0 (start bytes [] []) file_due g → f ≡ g
one_fault bytes f g st other =
    let a = start bytes [] [] in
    let h = halts_there file_layer limits 0 other.count a other.there file_due other.dues other.pieces f st other.front other.fits (λ s c t. halts_at_token file_layer limits other.count other.there c other.dues g s other.halts t) in
    let rules : h.rule ≡ other.halts.rule = let both : Some h.rule ≡ Some other.halts.rule = sym h.breaks ∙ other.halts.breaks in cc in
    h.fault ∙ ap (fault_at (before_next other.there.text (next_of other.there.text.ahead))) rules ∙ sym other.halts.fault
