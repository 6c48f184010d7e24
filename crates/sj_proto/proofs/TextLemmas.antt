-- The text of one protocol: what it stands for, or its first fault.
use Rattle.std.proofs.Common.{◌≡◌, ◌≢◌, ℕ, Bool, true, false, List, [], ◌∷◌, ◌++◌, drop, Some, Result, Ok, Err, refl, ap, sym, subst, ◌∙◌, arith}
use Rattle.std.specs.Prelude.{if◌then◌else◌, IsErrAnd}
use Rattle.sj_lang.specs.Place.{Place}
use Rattle.sj_lang.specs.ItemCount.{item_count}
use Rattle.sj_lang.specs.declared.file.Names.{Names}
use Rattle.sj_grammar.specs.declared.tokens.Fault.{Fault}
use Rattle.sj_grammar.specs.declared.tokens.Rule.TheVariants.{P1, P3}
use Rattle.sj_grammar.specs.declared.refusal.ParseRefusal.{ParseRefusal}
use Rattle.sj_grammar.specs.declared.refusal.ParseRefusal.TheVariants as refusals
use Rattle.sj_lang.specs.Limits.{limits}
use Rattle.sj_grammar.specs.Lexis.{Ahead, at_end, bad, token, next_of}
use Rattle.sj_grammar.specs.Reading.{Reading}
use Rattle.sj_grammar.specs.Literals.{is_largest}
use Rattle.sj_grammar.specs.Tables.{entry_of}
use Rattle.sj_grammar.specs.Positions.{Pieces, At, start, Begins}
use Rattle.sj_grammar.specs.Protocols.{body_pieces, dotted, IsGiven, IsBody}
use Rattle.sj_grammar.specs.ProtocolDues.{body, more, protocol_layer}
use Rattle.sj_grammar.specs.FileDues.{Due, proto, file_layer}
use Rattle.sj_grammar.specs.Faults.{broken, Halts, Stuck}
use Rattle.sj_grammar.specs.Refusals.{OnFault}
use Rattle.sj_grammar.specs.Asked.{Refuses, refused, Passes}
use Rattle.sj_grammar.proofs.EmbeddingLemmas.{stuck_embedded}
use Rattle.sj_grammar.proofs.StucknessLemmas.{halts_stuck, stuck_block, skip, clash}
use Rattle.sj_proto.specs.Parsed.{standing, Gives}
use Rattle.sj_proto.specs.Protocols.{IsProtocol, IsFirstFault, IsOnly}
use Rattle.sj_proto.proofs.ReadLemmas.{itself}
use Rattle.sj_grammar.proofs.ReadingLemmas.{one_reading}
use Rattle.sj_proto.proofs.UniquenessLemmas.{unique}
use Rattle.sj_proto.proofs.WholeRunLemmas.{body_run, in_file, protocol_in_file}

pub in_its_own : (n : ℕ) (a : At) (f : Fault) → Stuck file_layer limits n a (proto body ∷ []) f → Stuck protocol_layer limits n a (body ∷ []) f
in_its_own n a f st = stuck_embedded protocol_layer file_layer proto protocol_in_file limits n a (body ∷ []) f st

end_halts : (n : ℕ) (a : At) (f : Fault) → next_of a.text.ahead ≢ at_end → Refuses (λ s. Some P1) a.text f → Halts file_layer limits n a [] f
end_halts n a f some r = record { rule = r.rule; breaks = by_next (next_of a.text.ahead) some r.refused; fault = r.fault }
  where
    by_largest : (b : Bool) → (if b then Some P3 else Some P1) ≡ Some r.rule → Some (if b then P3 else P1) ≡ Some r.rule
    by_largest true e = e
    by_largest false e = e

    by_next : (x : Ahead) → x ≢ at_end → refused (λ s. Some P1) x ≡ Some r.rule → broken file_layer limits n [] x ≡ Some r.rule
    by_next at_end some e = absurd (some refl)
    by_next (bad rule rest) some e = e
    by_next (token what s rest) some e = by_largest (is_largest s) e

module _ (bytes : List ℕ) (old : Names) (r : Reading) (same : r ≡ record { before = []; ahead = bytes }) where
  from_start : (f : Fault) → Stuck file_layer limits 0 (standing r old) (proto body ∷ []) f → IsFirstFault bytes old f
  from_start f st = in_its_own 0 (start bytes old.words old.texts) f (subst (λ (x : Reading). Stuck file_layer limits 0 (standing x old) (proto body ∷ []) f) same st)

  pub first_fault : (e : ParseRefusal) → OnFault (λ f. (n : ℕ) (ds : List Due) → Stuck file_layer limits n (standing r old) (proto body ∷ ds) f) e → OnFault (IsFirstFault bytes old) e
  first_fault (refusals.At f) st = from_start f (st 0 [])
  first_fault refusals.NoMemory st = tt

  module _ (new : Names) (q : Reading) (p : Place) (gives : Gives (standing r old) (standing q new) (λ word. body_pieces word p) (λ word. IsBody limits word p)) where
    -- something stands after a protocol
    pub behind_fault : (f : Fault) → Passes file_layer (proto (more 0)) (next_of q.ahead) → next_of q.ahead ≢ at_end → Refuses (λ s. Some P1) q f → IsFirstFault bytes old f
    behind_fault f passes some h =
        let word = entry_of new.words in
        let whole = gives word (itself new.words) in
        from_start f (stuck_block file_layer limits 0 (item_count p) (standing r old) (standing q new) (body_pieces word p) (proto body ∷ []) (proto (more 0) ∷ []) f whole.0
        (in_file limits 0 (item_count p) (body ∷ []) (more 0 ∷ []) [] _ (body_run limits word p 0 [] whole.1))
        (skip file_layer limits (item_count p) (standing q new) (proto (more 0)) [] f refl passes
        (halts_stuck file_layer limits (item_count p) (standing q new) [] f (end_halts (item_count p) (standing q new) f some h))))

    pub protocol_is : next_of q.ahead ≡ at_end → IsProtocol bytes old new p
    protocol_is ends =
        let word = entry_of new.words in
        let whole = gives word (itself new.words) in
        record {
          end = standing q new;
          begins = subst (λ (x : Reading). Begins (standing x old) (body_pieces word p) (standing q new)) same whole.0;
          body = whole.1;
          whole = ends;
          words = refl;
          texts = refl;
        }

-- a protocol has no fault
pub no_fault : (bytes : List ℕ) (old new : Names) (p : Place) (f : Fault) → IsProtocol bytes old new p → IsFirstFault bytes old f → ⊥
no_fault bytes old new p f is st =
    let word = entry_of new.words in
    clash protocol_layer limits st.pieces (body_pieces word p) 0 st.count (item_count p) (start bytes old.words old.texts) st.there is.end (body ∷ []) st.dues (more 0 ∷ []) f st.front st.fits st.halts is.begins
    (body_run limits word p 0 [] is.body).steps refl is.whole

-- a text stands for one protocol
pub one_protocol : (bytes : List ℕ) (old new other : Names) (p q : Place) → IsProtocol bytes old new p → IsProtocol bytes old other q → (p ≡ q) × (new ≡ other)
one_protocol bytes old new other p q is also =
    let a = start bytes old.words old.texts in
    let both = one_reading (body_pieces (entry_of new.words) p) (body_pieces (entry_of other.words) q) a is.end also.end is.begins also.begins is.whole also.whole in
    let words : other.words ≡ new.words = sym also.words ∙ sym (ap (λ (x : At). x.words) both.1) ∙ is.words in
    let texts : other.texts ≡ new.texts = sym also.texts ∙ sym (ap (λ (x : At). x.texts) both.1) ∙ is.texts in
    let given : IsGiven limits (entry_of new.words) 0 q = subst (λ (ws : List (List ℕ)). IsGiven limits (entry_of ws) 0 q) words also.body.given in
    let pieces : dotted (entry_of new.words) p ≡ dotted (entry_of new.words) q =
    ap (drop 1) both.0 ∙ ap (λ (ws : List (List ℕ)). dotted (entry_of ws) q) words in
    let seam : dotted (entry_of new.words) p ++ [] ≡ dotted (entry_of new.words) q ++ [] = ap (λ (ps : Pieces). ps ++ []) pieces in
    ((unique (entry_of new.words) limits p q 0 [] [] is.body.given given (λ e. omega (arith, e)) (λ e. omega (arith, e)) seam).0, λ i. record { words = sym words i; texts = sym texts i })

-- so no fault is answered where it stands for one
pub refused_none : {X : Type 0} (view : X → Place) (bytes : List ℕ) (old : Names) (r : Result X ParseRefusal) (e : ParseRefusal) → IsErrAnd r (λ d. d ≡ e) → OnFault (IsFirstFault bytes old) e
    → (p : Place) (new : Names) → IsProtocol bytes old new p → IsOnly view r p
refused_none view bytes old (Ok x) e h st p new is = absurd h
refused_none view bytes old (Err d) (refusals.At f) h st p new is = absurd (no_fault bytes old new p f is st)
refused_none view bytes old (Err d) refusals.NoMemory h st p new is = (tt, h)
