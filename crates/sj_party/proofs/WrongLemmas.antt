-- The first fault of a file's text, and where the text goes wrong, are one.
use Rattle.std.proofs.Common.{◌≡◌, ◌≢◌, ℕ, Bool, true, false, List, [], ◌∷◌, ◌++◌, Option, Some, None, refl, ap, sym, subst, ◌∙◌, ◌⊎◌, inl, inr}
use Rattle.std.specs.Prelude.{if◌then◌else◌}
use Rattle.sj_grammar.specs.declared.tokens.Fault.{Fault}
use Rattle.sj_grammar.specs.declared.tokens.Rule.{Rule}
use Rattle.sj_grammar.specs.declared.tokens.Rule.TheVariants.{P1, P3, P4}
use Rattle.sj_grammar.specs.declared.tokens.What.{What}
use Rattle.sj_lang.specs.Limits.{limits}
use Rattle.sj_grammar.specs.Literals.{is_largest}
use Rattle.sj_grammar.specs.Lexis.{Ahead, at_end, bad, token, next_of}
use Rattle.sj_grammar.specs.Reading.{before_next, fault_at}
use Rattle.sj_grammar.specs.Positions.{Pieces, start}
use Rattle.sj_grammar.specs.Layers.{Step, goes, stops, misfit, rule_of, step, may_end}
use Rattle.sj_grammar.specs.FileDues.{Due, file_layer, file_due}
use Rattle.sj_grammar.specs.Faults.{Stuck, broken}
use Rattle.sj_grammar.specs.Viable.{IsViable}
use Rattle.sj_grammar.specs.Wrong.{IsWrongNext, GoesWrong}
use Rattle.sj_grammar.proofs.StepLemmas.{IsStep, due_behind, step_is, Runs-none, Runs-cons, Runs-append}
use Rattle.sj_party.specs.Leads.{Leads}
use Rattle.sj_party.specs.Viable.{IsSomeFile}
use Rattle.sj_party.specs.Wrong.{IsTaken, file_grammar}
use Rattle.sj_party.proofs.Faultless.{none_broken, not_viable, not_whole}
use Rattle.sj_party.proofs.ViabilityLemmas.{viable, viable_over, whole}

-- what is no limit's rule
misfits : (s : List ℕ) → misfit s ≢ P4
misfits s e = by_test (is_largest s) e
  where
    by_test : (b : Bool) → (if b then P3 else P1) ≡ P4 → ⊥
    by_test true h = cc
    by_test false h = cc

-- no due takes the token, or a limit is passed, or it is taken
stepped : (n : ℕ) (ds : List Due) (s : List ℕ)
    → (step file_layer limits n ds s ≡ stops (misfit s)) ⊎ ((step file_layer limits n ds s ≡ stops P4) ⊎ ((m : ℕ) × (es : List Due) × (step file_layer limits n ds s ≡ goes m es)))
stepped n ds s = by_due (due_behind file_layer ds s) (step file_layer limits n ds s) (step_is file_layer limits n ds s)
  where
    by_due : (x : Option (List Due)) (t : Step Due) → IsStep file_layer limits n ds s x t → (t ≡ stops (misfit s)) ⊎ ((t ≡ stops P4) ⊎ ((m : ℕ) × (es : List Due) × (t ≡ goes m es)))
    by_due None t i = inl i
    by_due (Some es) t (inl i) = inr (inl i)
    by_due (Some es) t (inr i) = inr (inr (i.0, es, i.1))

-- at a token, where the pieces before it are taken
module _ (ps : Pieces) (n : ℕ) (ds : List Due) (e : Leads limits 0 file_due ps n ds) (s : List ℕ) where
  -- its rule
  breaks : (rule : Rule) → step file_layer limits n ds s ≡ stops rule → rule_of (step file_layer limits n ds s) ≡ Some rule
  breaks rule h = ap rule_of h

  never : step file_layer limits n ds s ≡ stops (misfit s) → IsViable IsSomeFile (ps ++ s ∷ []) → ⊥
  never h = not_viable limits ps s n ds (misfit s) e (breaks (misfit s) h) (misfits s)

  over : step file_layer limits n ds s ≡ stops P4 → IsViable IsSomeFile (ps ++ s ∷ [])
  over h = viable_over limits ps n ds e s (breaks P4 h)

  taken : (m : ℕ) (es : List Due) → step file_layer limits n ds s ≡ goes m es → IsTaken limits (ps ++ s ∷ [])
  taken m es h = record {
    count = m;
    dues = es;
    leads = (Runs-append file_layer limits ps (s ∷ []) 0 n m file_due ds es (record { steps = e }) (Runs-cons file_layer limits n m m ds es es s [] h (Runs-none file_layer limits m es))).steps;
  }

  not_taken : step file_layer limits n ds s ≡ stops P4 → IsTaken limits (ps ++ s ∷ []) → ⊥
  not_taken h t =
      let goes_on = none_broken limits 0 t.count n file_due t.dues ds (ps ++ s ∷ []) ps [] s t.leads refl e in
      let both : Some P4 ≡ None = sym (breaks P4 h) ∙ goes_on in
      cc

  -- what rule the token breaks, in the grammar's own words
  token_wrong : (what : What) (rest : List ℕ) (rule : Rule) → rule_of (step file_layer limits n ds s) ≡ Some rule → IsWrongNext file_grammar ps (token what s rest) rule
  token_wrong what rest rule r = elim (stepped n ds s) [
    | inl h ↦ let same : Some rule ≡ Some (misfit s) = sym r ∙ breaks (misfit s) h in inl (cc, never h)
    | inr (inl h) ↦ let same : Some rule ≡ Some P4 = sym r ∙ breaks P4 h in inr (cc, over h, not_taken h)
    | inr (inr h) ↦ let same : Some rule ≡ None = sym r ∙ ap rule_of h.2 in let none : ⊥ = cc in absurd none
  ]

  -- and back
  token_broken : (what : What) (rest : List ℕ) (rule : Rule) → IsWrongNext file_grammar ps (token what s rest) rule → rule_of (step file_layer limits n ds s) ≡ Some rule
  token_broken what rest rule (inl w) = elim (stepped n ds s) [
    | inl h ↦ breaks (misfit s) h ∙ ap Some (sym w.0)
    | inr (inl h) ↦ absurd (w.1 (over h))
    | inr (inr h) ↦ let t = taken h.0 h.1 h.2 in absurd (w.1 (viable limits (ps ++ s ∷ []) t.count t.dues t.leads))
  ]
  token_broken what rest rule (inr w) = elim (stepped n ds s) [
    | inl h ↦ absurd (never h w.1)
    | inr (inl h) ↦ breaks P4 h ∙ ap Some (sym w.0)
    | inr (inr h) ↦ absurd (w.2 (taken h.0 h.1 h.2))
  ]

-- what comes next, where these pieces are taken
module _ (ps : Pieces) (n : ℕ) (ds : List Due) (e : Leads limits 0 file_due ps n ds) where
  next_wrong : (x : Ahead) (rule : Rule) → broken file_layer limits n ds x ≡ Some rule → IsWrongNext file_grammar ps x rule
  next_wrong at_end rule h = by_end (may_end file_layer ds) refl h
    where
      by_end : (b : Bool) → may_end file_layer ds ≡ b → (if b then None else Some P1) ≡ Some rule → (rule ≡ P1) × (IsSomeFile ps → ⊥)
      by_end true m f = let none : ⊥ = cc in absurd none
      by_end false m f = (cc, not_whole limits ps n ds e m)
  next_wrong (bad lexical rest) rule h = cc
  next_wrong (token what s rest) rule h = token_wrong ps n ds e s what rest rule h

  next_broken : (x : Ahead) (rule : Rule) → IsWrongNext file_grammar ps x rule → broken file_layer limits n ds x ≡ Some rule
  next_broken at_end rule w = by_end (may_end file_layer ds) refl ∙ ap Some (sym w.0)
    where
      by_end : (b : Bool) → may_end file_layer ds ≡ b → ◌≡◌ {A = Option Rule} (if b then None else Some P1) (Some P1)
      by_end true m = absurd (w.1 (whole limits ps n ds e m))
      by_end false m = refl
  next_broken (bad lexical rest) rule w = ap Some (sym w)
  next_broken (token what s rest) rule w = token_broken ps n ds e s what rest rule w

-- where the text is stuck it goes wrong
pub goes_wrong : (bytes : List ℕ) (f : Fault) → Stuck file_layer limits 0 (start bytes [] []) file_due f → GoesWrong file_grammar (start bytes [] []) f
goes_wrong bytes f st =
    let ahead = next_of st.there.text.ahead in
    let rule_is : st.halts.rule ≡ f.rule = sym (ap (λ (g : Fault). g.rule) st.halts.fault) in
    record {
      pieces = st.pieces;
      there = st.there;
      front = st.front;
      viable = viable limits st.pieces st.count st.dues st.fits;
      within = record { count = st.count; dues = st.dues; leads = st.fits };
      wrong = subst (IsWrongNext file_grammar st.pieces ahead) rule_is (next_wrong st.pieces st.count st.dues st.fits ahead st.halts.rule st.halts.breaks);
      position = st.halts.fault ∙ ap (fault_at (before_next st.there.text ahead)) rule_is;
    }

-- and where it goes wrong it is stuck
pub is_first_fault : (bytes : List ℕ) (f : Fault) → GoesWrong file_grammar (start bytes [] []) f → Stuck file_layer limits 0 (start bytes [] []) file_due f
is_first_fault bytes f w = record {
  pieces = w.pieces;
  there = w.there;
  count = w.within.count;
  dues = w.within.dues;
  front = w.front;
  fits = w.within.leads;
  halts = record { rule = f.rule; breaks = next_broken w.pieces w.within.count w.within.dues w.within.leads (next_of w.there.text.ahead) f.rule w.wrong; fault = w.position };
}
