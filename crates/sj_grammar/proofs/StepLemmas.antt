-- Pieces one after another, and what is due after them.
use Rattle.std.proofs.Common.{◌≡◌, ◌≢◌, ℕ, Bool, true, false, List, [], ◌∷◌, ◌++◌, Option, Some, None, refl, ap, sym, subst, ◌∙◌, append_assoc, ◌⊎◌, inl, inr}
use Rattle.std.specs.Prelude.{if◌then◌else◌}
use Rattle.sj_grammar.specs.declared.tokens.Rule.{Rule}
use Rattle.sj_grammar.specs.declared.tokens.Rule.TheVariants.{P1, P3, P4}
use Rattle.sj_lang.specs.Limits.{Limits}
use Rattle.sj_grammar.specs.Literals.{is_largest}
use Rattle.sj_grammar.specs.Positions.{Pieces}
use Rattle.sj_grammar.specs.Layers.{Layer, Step, goes, stops, instead, onward, misfit, rule_of, step, run}

module _ {D : Type 0} (G : Layer D) (L : Limits) where
  -- so many are counted and that is due; after the pieces so many are counted, and that is due
  pub record Runs (n : ℕ) (ds : List D) (ps : Pieces) (m : ℕ) (es : List D) : Type 0 where
    pub steps : run G L n ds ps ≡ goes m es

  pub Runs-none : (n : ℕ) (ds : List D) → Runs n ds [] n ds
  Runs-none n ds = record { steps = refl }

  pub Runs-cons : (n k m : ℕ) (ds es fs : List D) (s : List ℕ) (ps : Pieces) → step G L n ds s ≡ goes k es → Runs k es ps m fs → Runs n ds (s ∷ ps) m fs
  Runs-cons n k m ds es fs s ps e r = record { steps = ap (λ (t : Step D). onward t (λ m es. run G L m es ps)) e ∙ r.steps }

  pub onward_goes : (x : Step D) (f : ℕ → List D → Step D) (m : ℕ) (es : List D) → onward x f ≡ goes m es → (k : ℕ) × (gs : List D) × (x ≡ goes k gs) × (f k gs ≡ goes m es)
  onward_goes (goes k gs) f m es e = (k, gs, refl, e)
  onward_goes (stops r) f m es e = let none : ⊥ = cc in absurd none

  pub Runs-append : (a b : Pieces) (n m k : ℕ) (ds es fs : List D) → Runs n ds a m es → Runs m es b k fs → Runs n ds (a ++ b) k fs
  Runs-append [] b n m k ds es fs r q = record { steps = let counted : n ≡ m = cc (r.steps) in let due : ds ≡ es = cc (r.steps) in (λ i. run G L (counted i) (due i) b) ∙ q.steps }
  Runs-append (s ∷ a) b n m k ds es fs r q =
      let x = onward_goes (step G L n ds s) (λ j gs. run G L j gs a) m es r.steps in
      Runs-cons n x.0 k ds x.1 fs s (a ++ b) x.2 (Runs-append a b x.0 m k x.1 es fs (record { steps = x.3 }) q)

  -- a piece between
  pub Runs-seam : (a : Pieces) (c : List ℕ) (b : Pieces) (n m k : ℕ) (ds es fs : List D) → Runs n ds (a ++ c ∷ []) m es → Runs m es b k fs → Runs n ds (a ++ c ∷ b) k fs
  Runs-seam a c b n m k ds es fs r q =
      subst (λ (ps : Pieces). Runs n ds ps k fs) (append_assoc a (c ∷ []) b) (Runs-append (a ++ c ∷ []) b n m k ds es fs r q)

  pub Runs-to : (n m k : ℕ) (ds es : List D) (ps : Pieces) → m ≡ k → Runs n ds ps m es → Runs n ds ps k es
  Runs-to n m k ds es ps e r = subst (λ (j : ℕ). Runs n ds ps j es) e r

  pub run_split : (a b : Pieces) (n k : ℕ) (ds es : List D) → run G L n ds (a ++ b) ≡ goes k es → (m : ℕ) × (mid : List D) × (run G L n ds a ≡ goes m mid) × (run G L m mid b ≡ goes k es)
  run_split [] b n k ds es e = (n, ds, refl, e)
  run_split (s ∷ a) b n k ds es e =
      let x = onward_goes (step G L n ds s) (λ j gs. run G L j gs (a ++ b)) k es e in
      let r = run_split a b x.0 k x.1 es x.3 in
      (r.0, r.1, ap (λ (t : Step D). onward t (λ j gs. run G L j gs a)) x.2 ∙ r.2, r.3)

module _ {D : Type 0} (G : Layer D) where
  abbrev pub or_else : Option (List D) → List D → Option (List D) → Option (List D)
  or_else None ds others = others
  or_else (Some es) ds others = Some (es ++ ds)

  -- what is due after the token, limits aside
  abbrev pub due_behind : List D → List ℕ → Option (List D)
  due_behind [] s = None
  due_behind (d ∷ ds) s = or_else (G.follow d s) ds (if G.may_be_none d then due_behind ds s else None)

  -- a step, by what is due after the token
  abbrev pub IsStep : Limits → ℕ → List D → List ℕ → Option (List D) → Step D → Type 0
  IsStep L n ds s None t = t ≡ stops (misfit s)
  IsStep L n ds s (Some es) t = (t ≡ stops P4) ⊎ ((m : ℕ) × (t ≡ goes m es))

  pub step_is : (L : Limits) (n : ℕ) (ds : List D) (s : List ℕ) → IsStep L n ds s (due_behind ds s) (step G L n ds s)
  step_is L n [] s = refl
  step_is L n (d ∷ ds) s = by_follow (step_is L n ds s) (G.follow d s) (G.may_be_none d)
    where
      over : (b : Bool) (m : ℕ) (es : List D) → ((if b then stops P4 else goes m es) ≡ stops P4) ⊎ ((k : ℕ) × ((if b then stops P4 else goes m es) ≡ goes k es))
      over true m es = inl refl
      over false m es = inr (m, refl)

      by_follow : IsStep L n ds s (due_behind ds s) (step G L n ds s) → (x : Option (List D)) (b : Bool)
          → IsStep L n (d ∷ ds) s (or_else x ds (if b then due_behind ds s else None)) (instead x (G.passes L n d s) (G.counted n d s) ds (if b then step G L n ds s else stops (misfit s)))
      by_follow later (Some es) b = over (G.passes L n d s) (G.counted n d s) (es ++ ds)
      by_follow later None true = later
      by_follow later None false = refl

  -- what is due doesn't rest on the limits
  pub step_due : (L : Limits) (n m : ℕ) (ds es : List D) (s : List ℕ) → step G L n ds s ≡ goes m es → due_behind ds s ≡ Some es
  step_due L n m ds es s e = by_due (due_behind ds s) (step G L n ds s) (step_is L n ds s) e
    where
      by_due : (x : Option (List D)) (t : Step D) → IsStep L n ds s x t → t ≡ goes m es → x ≡ Some es
      by_due None t i e = let none : ⊥ = cc in absurd none
      by_due (Some gs) t (inl i) e = let none : ⊥ = cc in absurd none
      by_due (Some gs) t (inr i) e = let going = i.1 in cc

  -- where it breaks a rule other than a limit, nothing is due
  pub step_refused : (L : Limits) (n : ℕ) (ds : List D) (s : List ℕ) (r : Rule) → rule_of (step G L n ds s) ≡ Some r → r ≢ P4 → due_behind ds s ≡ None
  step_refused L n ds s r e other = by_due (due_behind ds s) (step G L n ds s) (step_is L n ds s) e
    where
      by_due : (x : Option (List D)) (t : Step D) → IsStep L n ds s x t → rule_of t ≡ Some r → x ≡ None
      by_due None t i e = refl
      by_due (Some gs) t (inl i) e = let limit : Some P4 ≡ Some r = sym (ap rule_of i) ∙ e in let same : P4 ≡ r = cc in absurd (other (sym same))
      by_due (Some gs) t (inr i) e = let none : None ≡ Some r = sym (ap rule_of i.1) ∙ e in let no : ⊥ = cc in absurd no

  pub step_none : (L : Limits) (n : ℕ) (ds : List D) (s : List ℕ) → rule_of (step G L n ds s) ≡ Some P1 → due_behind ds s ≡ None
  step_none L n ds s e = step_refused L n ds s P1 e (λ same. cc)

  pub step_over : (L : Limits) (n : ℕ) (ds : List D) (s : List ℕ) → rule_of (step G L n ds s) ≡ Some P4 → (es : List D) × (due_behind ds s ≡ Some es)
  step_over L n ds s e = by_due (due_behind ds s) (step G L n ds s) (step_is L n ds s) e
    where
      is_no_limit : (b : Bool) → Some (if b then P3 else P1) ≡ Some P4 → ⊥
      is_no_limit true e = cc
      is_no_limit false e = cc

      by_due : (x : Option (List D)) (t : Step D) → IsStep L n ds s x t → rule_of t ≡ Some P4 → (es : List D) × (x ≡ Some es)
      by_due None t i e = absurd (is_no_limit (is_largest s) (sym (ap rule_of i) ∙ e))
      by_due (Some gs) t i e = (gs, refl)

  pub one_due : (L M : Limits) (ps : Pieces) (n m k j : ℕ) (ds es fs : List D) → run G L n ds ps ≡ goes k es → run G M m ds ps ≡ goes j fs → es ≡ fs
  one_due L M [] n m k j ds es fs e f = cc
  one_due L M (s ∷ ps) n m k j ds es fs e f =
      let x = onward_goes G L (step G L n ds s) (λ i gs. run G L i gs ps) k es e in
      let y = onward_goes G M (step G M m ds s) (λ i gs. run G M i gs ps) j fs f in
      let same : y.1 ≡ x.1 = let a = step_due L n x.0 ds x.1 s x.2 in let b = step_due M m y.0 ds y.1 s y.2 in cc in
      one_due L M ps x.0 y.0 k j x.1 es fs x.3 (subst (λ (gs : List D). run G M y.0 gs ps ≡ goes j fs) same y.3)
