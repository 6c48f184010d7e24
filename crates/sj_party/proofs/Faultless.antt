-- Pieces that are all taken have no fault, and others don't go on.
use Rattle.std.proofs.Common.{◌≡◌, ◌≢◌, ℕ, true, false, List, [], ◌∷◌, ◌++◌, Some, None, ap, sym, ◌∙◌, append_assoc}
use Rattle.sj_lang.specs.FileAt.{FileAt}
use Rattle.sj_grammar.specs.declared.tokens.Rule.{Rule}
use Rattle.sj_grammar.specs.declared.tokens.Rule.TheVariants.{P4}
use Rattle.sj_grammar.specs.declared.tokens.Fault.{Fault}
use Rattle.sj_lang.specs.Limits.{Limits, limits}
use Rattle.sj_grammar.specs.Positions.{Pieces, spellings, start}
use Rattle.sj_grammar.specs.Layers.{step, run, may_end, rule_of}
use Rattle.sj_grammar.specs.Faults.{Stuck}
use Rattle.sj_grammar.specs.FileDues.{Due, file_layer, file_due}
use Rattle.sj_grammar.specs.Files.{IsFile}
use Rattle.sj_grammar.specs.Viable.{IsViable}
use Rattle.sj_grammar.proofs.StepLemmas.{run_split, onward_goes, step_due, step_refused, one_due, due_behind}
use Rattle.sj_grammar.proofs.StucknessLemmas.{clash}
use Rattle.sj_proto.proofs.LineLemmas.{off_lines}
use Rattle.sj_party.specs.Leads.{Leads}
use Rattle.sj_party.specs.Viable.{IsSomeFile}
use Rattle.sj_party.proofs.FileRunLemmas.{file_completes}

module _ (L : Limits) where
  -- up to each token on the way no rule is broken
  pub none_broken : (n k m : ℕ) (ds es due : List Due) (ps front back : Pieces) (s : List ℕ) → Leads L n ds ps k es → ps ≡ front ++ s ∷ back → Leads L n ds front m due → rule_of (step file_layer L m due s) ≡ None
  none_broken n k m ds es due ps front back s r split e =
      let x = run_split file_layer L front (s ∷ back) n k ds es (ap (run file_layer L n ds) (sym split) ∙ r) in
      let both = sym x.2 ∙ e in
      let counted : x.0 ≡ m = cc in
      let same : x.1 ≡ due = cc in
      let y = onward_goes file_layer L (step file_layer L x.0 x.1 s) (λ j gs. run file_layer L j gs back) k es x.3 in
      sym (λ i. rule_of (step file_layer L (counted i) (same i) s)) ∙ ap rule_of y.2

  -- with a token that breaks a rule, but for limits, no file goes on
  pub not_viable : (ps : Pieces) (s : List ℕ) (m : ℕ) (due : List Due) (rule : Rule) → Leads L 0 file_due ps m due → rule_of (step file_layer L m due s) ≡ Some rule → rule ≢ P4 → IsViable IsSomeFile (ps ++ s ∷ []) → ⊥
  not_viable ps s m due rule e breaks other v =
      let M = v.all.within in
      let w = file_completes M v.all.file v.all.lines 0 v.all.spelled in
      let split : ps ++ (s ∷ v.later) ≡ spellings v.all.lines = sym (append_assoc ps (s ∷ []) v.later) ∙ sym v.all.same in
      let r = run_split file_layer M ps (s ∷ v.later) 0 w.count file_due w.dues (ap (run file_layer M 0 file_due) split ∙ w.steps) in
      let same : r.1 ≡ due = one_due file_layer M L ps 0 0 r.0 m file_due r.1 due r.2 e in
      let x = onward_goes file_layer M (step file_layer M r.0 r.1 s) (λ j gs. run file_layer M j gs v.later) w.count w.dues r.3 in
      let goes_on = step_due file_layer M r.0 x.0 r.1 x.1 s x.2 in
      let stopped : due_behind file_layer r.1 s ≡ None = ap (λ (ds : List Due). due_behind file_layer ds s) same ∙ step_refused file_layer L m due s rule breaks other in
      cc

  -- and where something is due the text is no whole file
  pub not_whole : (ps : Pieces) (m : ℕ) (due : List Due) → Leads L 0 file_due ps m due → may_end file_layer due ≡ false → IsSomeFile ps → ⊥
  not_whole ps m due e stop v =
      let w = file_completes v.within v.file v.lines 0 v.spelled in
      let dues : w.dues ≡ due = one_due file_layer v.within L ps 0 0 w.count m file_due w.dues due (ap (run file_layer v.within 0 file_due) (sym v.same) ∙ w.steps) e in
      let ends : may_end file_layer due ≡ true = ap (may_end file_layer) (sym dues) ∙ w.ends in
      cc

-- a text that stands for a file has no fault
pub no_fault : (bytes : List ℕ) (f : FileAt) (g : Fault) → IsFile bytes f → Stuck file_layer limits 0 (start bytes [] []) file_due g → ⊥
no_fault bytes f g is st =
    let w = file_completes limits f is.pieces 0 is.spelled in
    clash file_layer limits st.pieces (spellings is.pieces) 0 st.count w.count (start bytes [] []) st.there is.end file_due st.dues w.dues g st.front st.fits st.halts (off_lines is.pieces (start bytes [] []) is.end is.begins) w.steps w.ends is.whole
