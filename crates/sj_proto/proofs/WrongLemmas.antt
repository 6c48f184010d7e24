-- The first fault of a text, and where the text goes wrong in the grammar's own words, are one.
use Rattle.std.proofs.Common.{◌≡◌, ℕ, Bool, true, false, IsTrue, List, [], ◌∷◌, ◌++◌, Option, Some, None, refl, ap, sym, subst, ◌∙◌, inl, inr}
use Rattle.std.specs.Prelude.{if◌then◌else◌}
use Rattle.std.specs.List.{fold}
use Rattle.sj_lang.specs.declared.file.Names.{Names}
use Rattle.sj_grammar.specs.declared.tokens.Fault.{Fault}
use Rattle.sj_grammar.specs.declared.tokens.Rule.{Rule}
use Rattle.sj_grammar.specs.declared.tokens.Rule.TheVariants.{P1, P4}
use Rattle.sj_grammar.specs.declared.tokens.What.{What}
use Rattle.sj_lang.specs.Limits.{limits}
use Rattle.sj_grammar.specs.Lexis.{Ahead, at_end, bad, token, next_of}
use Rattle.sj_grammar.specs.Reading.{before_next, fault_at}
use Rattle.sj_grammar.specs.Layers.{goes, stops, misfit, rule_of, step, run, may_end}
use Rattle.sj_grammar.specs.ProtocolDues.{ProtocolDue, body, protocol_layer}
use Rattle.sj_grammar.specs.Faults.{broken}
use Rattle.sj_grammar.specs.Positions.{start}
use Rattle.sj_grammar.specs.Viable.{IsViable}
use Rattle.sj_grammar.specs.Wrong.{IsWrongNext, GoesWrong}
use Rattle.sj_grammar.proofs.StepLemmas.{due_behind}
use Rattle.sj_proto.specs.Protocols.{IsFirstFault}
use Rattle.sj_proto.specs.Writable.{IsSomeProtocol}
use Rattle.sj_proto.specs.Wrong.{brackets_behind, items_behind, is_over, passes_limit, protocol_grammar}
use Rattle.sj_proto.proofs.WithinLemmas.{wide}
use Rattle.sj_proto.proofs.ViableLemmas.{viable, viable_next, whole, not_viable, not_whole, viable_run}
use Rattle.sj_proto.proofs.CountLemmas.{Begun, begun_step}
use Rattle.sj_proto.proofs.TakenPieceLemmas.{run_begun, run_within, not_due, due_over}

-- at the beginning of a protocol nothing was counted
at_start : Begun 0 [] (body ∷ [])
at_start = inl (refl, refl, refl)

pub goes_wrong : (bytes : List ℕ) (names : Names) (f : Fault) → IsFirstFault bytes names f → GoesWrong protocol_grammar (start bytes names.words names.texts) f
goes_wrong bytes names f st =
    let runs = run_begun st.pieces 0 st.count [] (body ∷ []) st.dues at_start st.fits in
    let rule_is : st.halts.rule ≡ f.rule = sym (ap (λ (g : Fault). g.rule) st.halts.fault) in
    let before = before_next st.there.text (next_of st.there.text.ahead) in
    record {
      pieces = st.pieces;
      there = st.there;
      front = st.front;
      viable = viable limits st.pieces st.count st.dues st.fits;
      within = runs.2;
      wrong = subst (IsWrongNext protocol_grammar st.pieces (next_of st.there.text.ahead)) rule_is (by_next (next_of st.there.text.ahead) st.halts.rule runs.0 runs.1 st.halts.breaks);
      position = st.halts.fault ∙ ap (fault_at before) rule_is;
    }
  where
    by_end : (b : Bool) (rule : Rule) → may_end protocol_layer st.dues ≡ b → (if b then None else Some P1) ≡ Some rule → IsWrongNext protocol_grammar st.pieces at_end rule
    by_end true rule e h = let none : ⊥ = cc in absurd none
    by_end false rule e h = (cc, not_whole limits st.pieces st.count st.dues st.fits e)

    by_due : (s rest : List ℕ) (what : What) (rule : Rule) → Begun st.count (fold brackets_behind [] st.pieces) st.dues → st.count ≡ fold items_behind 0 st.pieces → (x : Option (List ProtocolDue)) → due_behind protocol_layer st.dues s ≡ x
        → rule_of (step protocol_layer limits st.count st.dues s) ≡ Some rule → IsWrongNext protocol_grammar st.pieces (token what s rest) rule
    by_due s rest what rule b count None e h =
        let stop : Some (misfit s) ≡ Some rule = sym (ap rule_of (not_due st.count (fold brackets_behind [] st.pieces) st.dues s b e)) ∙ h in
        inl (cc, not_viable limits st.pieces st.count st.dues st.fits s e)
    by_due s rest what rule b count (Some es) e h =
        let over = due_over st.count (fold brackets_behind [] st.pieces) st.dues s b es rule e h in
        inr (over.0, viable_next limits st.pieces st.count st.dues st.fits es s e, ap (λ (j : ℕ). is_over limits j (fold brackets_behind [] st.pieces) s) (sym count) ∙ over.1)

    by_next : (x : Ahead) (rule : Rule) → Begun st.count (fold brackets_behind [] st.pieces) st.dues → st.count ≡ fold items_behind 0 st.pieces → broken protocol_layer limits st.count st.dues x ≡ Some rule → IsWrongNext protocol_grammar st.pieces x rule
    by_next at_end rule b count h = by_end (may_end protocol_layer st.dues) rule refl h
    by_next (bad lexical rest) rule b count h = cc
    by_next (token what s rest) rule b count h = by_due s rest what rule b count (due_behind protocol_layer st.dues s) refl h

pub is_first_fault : (bytes : List ℕ) (names : Names) (f : Fault) → GoesWrong protocol_grammar (start bytes names.words names.texts) f → IsFirstFault bytes names f
is_first_fault bytes names f w =
    let v = viable_run w.pieces w.viable in
    let r = run_within (wide w.viable.all.word w.viable.all.place) w.pieces 0 0 v.0 [] (body ∷ []) v.1 at_start v.2 w.within in
    let b = run_begun w.pieces 0 r.0 [] (body ∷ []) v.1 at_start r.1 in
    record {
      pieces = w.pieces;
      there = w.there;
      count = r.0;
      dues = v.1;
      front = w.front;
      fits = r.1;
      halts = record { rule = f.rule; breaks = by_next r.0 v.1 r.1 b.0 b.1 (next_of w.there.text.ahead) f.rule w.wrong; fault = w.position };
    }
  where
    by_end : (n : ℕ) (due : List ProtocolDue) → run protocol_layer limits 0 (body ∷ []) w.pieces ≡ goes n due → (IsSomeProtocol w.pieces → ⊥) → (b : Bool) → may_end protocol_layer due ≡ b → ◌≡◌ {A = Option Rule} (if b then None else Some P1) (Some P1)
    by_end n due e not_all true h = absurd (not_all (whole limits w.pieces n due e h))
    by_end n due e not_all false h = refl

    by_none : (n : ℕ) (due : List ProtocolDue) → run protocol_layer limits 0 (body ∷ []) w.pieces ≡ goes n due → Begun n (fold brackets_behind [] w.pieces) due → (s : List ℕ) → (IsViable IsSomeProtocol (w.pieces ++ s ∷ []) → ⊥)
        → (x : Option (List ProtocolDue)) → due_behind protocol_layer due s ≡ x → rule_of (step protocol_layer limits n due s) ≡ Some (misfit s)
    by_none n due e b s never None h = ap rule_of (not_due n (fold brackets_behind [] w.pieces) due s b h)
    by_none n due e b s never (Some es) h = absurd (never (viable_next limits w.pieces n due e es s h))

    by_some : (n : ℕ) (due : List ProtocolDue) → run protocol_layer limits 0 (body ∷ []) w.pieces ≡ goes n due → Begun n (fold brackets_behind [] w.pieces) due → n ≡ fold items_behind 0 w.pieces → (s : List ℕ) → IsViable IsSomeProtocol (w.pieces ++ s ∷ [])
        → IsTrue (passes_limit w.pieces s) → (x : Option (List ProtocolDue)) → due_behind protocol_layer due s ≡ x → rule_of (step protocol_layer limits n due s) ≡ Some P4
    by_some n due e b count s can over None h = absurd (not_viable limits w.pieces n due e s h can)
    by_some n due e b count s can over (Some es) h =
        let here : is_over limits n (fold brackets_behind [] w.pieces) s ≡ true = ap (λ (j : ℕ). is_over limits j (fold brackets_behind [] w.pieces) s) count ∙ over in
        ap rule_of ((begun_step limits n (fold brackets_behind [] w.pieces) due es s b h).0 ∙ ap (λ (x : Bool). if x then stops P4 else goes (items_behind n s) es) here)

    by_next : (n : ℕ) (due : List ProtocolDue) → run protocol_layer limits 0 (body ∷ []) w.pieces ≡ goes n due → Begun n (fold brackets_behind [] w.pieces) due → n ≡ fold items_behind 0 w.pieces → (x : Ahead) (rule : Rule)
        → IsWrongNext protocol_grammar w.pieces x rule → broken protocol_layer limits n due x ≡ Some rule
    by_next n due e b count at_end rule h = by_end n due e h.1 (may_end protocol_layer due) refl ∙ ap Some (sym h.0)
    by_next n due e b count (bad lexical rest) rule h = ap Some (sym h)
    by_next n due e b count (token what s rest) rule (inl h) = by_none n due e b s h.1 (due_behind protocol_layer due s) refl ∙ ap Some (sym h.0)
    by_next n due e b count (token what s rest) rule (inr h) = by_some n due e b count s h.1 h.2 (due_behind protocol_layer due s) refl ∙ ap Some (sym h.0)
