-- What was taken, and what spells what is due after it, spell what was due before.
use Rattle.std.proofs.Common.{◌≡◌, ℕ, Bool, true, false, List, [], ◌∷◌, ◌++◌, Option, Some, None, refl, ap, sym, subst, ◌∙◌, append_assoc, append-nil}
use Rattle.std.specs.Prelude.{if◌then◌else◌, ◌&&◌, map}
use Rattle.sj_lang.specs.Limits.{Limits}
use Rattle.sj_grammar.specs.Positions.{Pieces}
use Rattle.sj_grammar.specs.Layers.{Layer, goes, step, run, may_end}
use Rattle.sj_grammar.proofs.StepLemmas.{due_behind, step_due, onward_goes, or_else}
use Rattle.sj_grammar.proofs.SpellingLemmas.{AllHeld}

module _ {D : Type 0} (G : Layer D) (Spelled : D → Pieces → Type 0) where
  -- the pieces are what is due, one after another
  abbrev pub Alls : List D → Pieces → Type 0
  Alls [] ts = ts ≡ []
  Alls (d ∷ ds) ts = (a : Pieces) × (b : Pieces) × Spelled d a × Alls ds b × (ts ≡ a ++ b)

  pub Alls-split : (es ds : List D) (ts : Pieces) → Alls (es ++ ds) ts → (a : Pieces) × (b : Pieces) × Alls es a × Alls ds b × (ts ≡ a ++ b)
  Alls-split [] ds ts h = ([], ts, refl, h, refl)
  Alls-split (e ∷ es) ds ts h =
      let rest = Alls-split es ds h.1 h.3 in
      (h.0 ++ rest.0, rest.1, (h.0, rest.0, h.2, rest.2, refl), rest.3, h.4 ∙ ap (λ x. h.0 ++ x) rest.4 ∙ sym (append_assoc h.0 rest.0 rest.1))

  -- one due alone
  pub lone : (d : D) (ts : Pieces) → Alls (d ∷ []) ts → Spelled d ts
  lone d ts h = subst (Spelled d) (sym (h.4 ∙ ap (λ x. h.0 ++ x) h.3 ∙ append-nil h.0)) h.2

  -- where something spells each due
  pub some_alls : ((d : D) → (a : Pieces) × Spelled d a) → (ds : List D) → (ts : Pieces) × Alls ds ts
  some_alls some [] = ([], refl)
  some_alls some (d ∷ ds) =
      let x = some d in
      let y = some_alls some ds in
      (x.0 ++ y.0, (x.0, y.0, x.1, y.1, refl))

  pub ends_back : ((d : D) → G.may_be_none d ≡ true → Spelled d []) → (ds : List D) → may_end G ds ≡ true → Alls ds []
  ends_back none [] e = refl
  ends_back none (d ∷ ds) e = by_test (G.may_be_none d) refl (ends_back none ds) e
    where
      by_test : (b : Bool) → G.may_be_none d ≡ b → (may_end G ds ≡ true → Alls ds []) → (b && may_end G ds) ≡ true → Alls (d ∷ ds) []
      by_test true eb later h = ([], [], none d eb, later h, refl)
      by_test false eb later h = let no : ⊥ = cc in absurd no

  -- pieces of which each can be spelled
  module _ (Held : List ℕ → Type 0) (taken : (d : D) (s : List ℕ) (es : List D) (ts : Pieces) → Held s → G.follow d s ≡ Some es → Alls es ts → Spelled d (s ∷ ts)) (none : (d : D) → G.may_be_none d ≡ true → Spelled d []) where
    pub due_back : (ds es : List D) (s : List ℕ) (ts : Pieces) → Held s → due_behind G ds s ≡ Some es → Alls es ts → Alls ds (s ∷ ts)
    due_back [] es s ts held e h = let no : ⊥ = cc in absurd no
    due_back (d ∷ ds) es s ts held e h = by_follow (G.follow d s) (G.may_be_none d) refl refl (λ k. due_back ds es s ts held k h) e
      where
        by_follow : (x : Option (List D)) (b : Bool) → G.follow d s ≡ x → G.may_be_none d ≡ b → (due_behind G ds s ≡ Some es → Alls ds (s ∷ ts)) → or_else G x ds (if b then due_behind G ds s else None) ≡ Some es → Alls (d ∷ ds) (s ∷ ts)
        by_follow (Some gs) b ef eb later k =
            let due : es ≡ gs ++ ds = cc in
            let parts = Alls-split gs ds ts (subst (λ (xs : List D). Alls xs ts) due h) in
            (s ∷ parts.0, parts.1, taken d s gs parts.0 held ef parts.2, parts.3, ap (λ x. s ∷ x) parts.4)
        by_follow None true ef eb later k = ([], s ∷ ts, none d eb, later k, refl)
        by_follow None false ef eb later k = let no : ⊥ = cc in absurd no

    pub run_back : (L : Limits) (ps : Pieces) (n m : ℕ) (ds es : List D) (ts : Pieces) → AllHeld Held ps → run G L n ds ps ≡ goes m es → Alls es ts → Alls ds (ps ++ ts)
    run_back L [] n m ds es ts held e h = let same : es ≡ ds = cc in subst (λ (xs : List D). Alls xs ts) same h
    run_back L (s ∷ ps) n m ds es ts held e h =
        let x = onward_goes G L (step G L n ds s) (λ j gs. run G L j gs ps) m es e in
        due_back ds x.1 s (ps ++ ts) held.0 (step_due G L n x.0 ds x.1 s x.2) (run_back L ps x.0 m x.1 es ts held.1 x.3 h)

-- dues that stand for those of a layer below, and are spelled alike
module _ {D E : Type 0} (G : Layer D) (H : Layer E) (P : D → Pieces → Type 0) (Q : E → Pieces → Type 0) (up : D → E) (alike : (d : D) (a : Pieces) → Q (up d) a → P d a) where
  pub alls_below : (ds : List D) (ts : Pieces) → Alls H Q (map up ds) ts → Alls G P ds ts
  alls_below [] ts h = h
  alls_below (d ∷ ds) ts h = (h.0, h.1, alike d h.0 h.2, alls_below ds h.1 h.3, h.4)
