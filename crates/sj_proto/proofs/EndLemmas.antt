-- What is answered at the end of a text, and the one fault of a text.
use Rattle.std.proofs.Common.{◌≡◌, ℕ, List, [], ◌∷◌, ◌++◌, Ok, Some, refl, ap, sym, ◌∙◌, append-nil}
use Rattle.sj_lang.specs.declared.file.Names.{Names}
use Rattle.sj_grammar.specs.declared.tokens.What.TheVariants.{End}
use Rattle.sj_grammar.specs.declared.tokens.Token.{Token}
use Rattle.sj_grammar.specs.declared.tokens.Fault.{Fault}
use Rattle.sj_lang.specs.Limits.{limits}
use Rattle.sj_grammar.specs.Lexis.{Ahead, at_end, bad, token, next_of}
use Rattle.sj_grammar.specs.Reading.{Reading, answer_to, reading_after, token_at, fault_at, before_next}
use Rattle.sj_grammar.specs.Positions.{start}
use Rattle.sj_grammar.specs.ProtocolDues.{body, protocol_layer}
use Rattle.sj_grammar.proofs.SplitLemmas.{next_split}
use Rattle.sj_grammar.proofs.ReadingLemmas.{halts_there, halts_at_token}
use Rattle.sj_proto.specs.Protocols.{IsFirstFault}

pub only_end : (r : Reading) (t : Token) → answer_to r (next_of r.ahead) ≡ Ok t → t.what ≡ End → next_of r.ahead ≡ at_end
only_end r t e is = by_next (next_of r.ahead) refl e
  where
    by_next : (x : Ahead) → next_of r.ahead ≡ x → answer_to r x ≡ Ok t → next_of r.ahead ≡ at_end
    by_next at_end n e = n
    by_next (bad rule rest) n e = let none : ⊥ = cc in absurd none
    by_next (token what s rest) n e =
        let same : token_at (before_next r (token what s rest)) what s ≡ t = cc in
        absurd ((next_split r.ahead what s rest n).other (ap (λ (u : Token). u.what) same ∙ is))

pub end_again : (r : Reading) → next_of r.ahead ≡ at_end → answer_to (reading_after r at_end) (next_of (reading_after r at_end).ahead) ≡ answer_to r at_end
end_again r e = ap (λ (b : List ℕ). Ok (token_at b End [])) (append-nil (r.before ++ r.ahead))

pub fault_again : (r : Reading) (x : Ahead) → next_of r.ahead ≡ x → answer_to r (next_of r.ahead) ≡ answer_to r x
fault_again r x e = ap (answer_to r) e

pub one_fault : (bytes : List ℕ) (names : Names) (f g : Fault) → IsFirstFault bytes names f → IsFirstFault bytes names g → f ≡ g
one_fault bytes names f g st other =
    let a = start bytes names.words names.texts in
    let h = halts_there protocol_layer limits 0 other.count a other.there (body ∷ []) other.dues other.pieces f st other.front other.fits (λ s c t. halts_at_token protocol_layer limits other.count other.there c other.dues g s other.halts t) in
    let rules : h.rule ≡ other.halts.rule = let both : Some h.rule ≡ Some other.halts.rule = sym h.breaks ∙ other.halts.breaks in cc in
    h.fault ∙ ap (fault_at (before_next other.there.text (next_of other.there.text.ahead))) rules ∙ sym other.halts.fault
