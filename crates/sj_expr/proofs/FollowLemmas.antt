-- From what is due after a token to what is due before it.
use Rattle.std.proofs.Common.{◌≡◌, ℕ, Bool, true, false, List, [], ◌∷◌, ◌++◌, Option, Some, None, refl, ap, sym, subst, ◌∙◌, append_assoc, append-nil, ◌⊎◌, inl, inr}
use Rattle.std.specs.Prelude.{codes, if◌then◌else◌, ◌||◌}
use Rattle.std.specs.Str.{bytes_eq}
use Rattle.sj_grammar.specs.Literals.{is_number}
use Rattle.sj_grammar.specs.Tables.{Spelling}
use Rattle.sj_grammar.specs.Positions.{Pieces}
use Rattle.sj_grammar.specs.ExpressionDues.{ExpressionDue, whole, factor, times, plus, compare, after_minus, fixed, factor_follow, then_also, expression_follow, expression_may_be_none, expression_layer}
use Rattle.sj_grammar.proofs.SpellingLemmas.{IsHeld}
use Rattle.sj_grammar.proofs.CompletionLemmas.{Alls-split}
use Rattle.sj_expr.proofs.WideLimitLemmas.{w_as, w_true, w_factor, w_term, w_sum, w_product, w_addition, w_difference, w_less, w_less_eq, w_equal}
use Rattle.sj_expr.proofs.CompletionLemmas.{Spelled, AllSpelled, to_term, to_sum, to_whole, done, factor_back}
use Rattle.sj_expr.proofs.TestLemmas.{bytes_same}

module _ (names : Spelling) where
  -- after an operator: what it joins, and what is due after that
  times_back : (o : ℕ) (s : List ℕ) (ts : Pieces) → s ≡ codes "*" → AllSpelled names (factor o ∷ times o ∷ []) ts → Spelled names (times o) (s ∷ ts)
  times_back o s ts same h = λ t b w.
      let more = h.3 in
      let x = more.2 _ _ (w_product names w h.2.1) in
      let tail : h.0 ++ more.0 ≡ ts = ap (λ z. h.0 ++ z) (done names more.4 more.3) ∙ sym h.4 in
      (x.0, w_as names (append_assoc b (codes "*" ∷ h.0) more.0 ∙ (λ i. b ++ (sym same i ∷ tail i))) x.1)

  plus_back : (o : ℕ) (s : List ℕ) (ts : Pieces) → (s ≡ codes "+") ⊎ (s ≡ codes "-") → AllSpelled names (factor o ∷ times o ∷ plus o ∷ []) ts → Spelled names (plus o) (s ∷ ts)
  plus_back o s ts same h = λ t b w.
      let x = to_term names o h.2.0 h.0 h.1 (plus o ∷ []) h.2.1 h.3 in
      let more = x.4 in
      let tail : x.1 ++ more.0 ≡ ts = ap (λ z. x.1 ++ z) (done names more.4 more.3) ∙ sym x.5 ∙ sym h.4 in
      elim same [
        | inl e ↦ let y = more.2 _ _ (w_addition names w x.3) in (y.0, w_as names (append_assoc b (codes "+" ∷ x.1) more.0 ∙ (λ i. b ++ (sym e i ∷ tail i))) y.1)
        | inr e ↦ let y = more.2 _ _ (w_difference names w x.3) in (y.0, w_as names (append_assoc b (codes "-" ∷ x.1) more.0 ∙ (λ i. b ++ (sym e i ∷ tail i))) y.1)
      ]

  compare_back : (o : ℕ) (s : List ℕ) (ts : Pieces) → (s ≡ codes "<") ⊎ ((s ≡ codes "<=") ⊎ (s ≡ codes "==")) → AllSpelled names (factor o ∷ times o ∷ plus o ∷ []) ts → Spelled names (compare o) (s ∷ ts)
  compare_back o s ts same h = λ t b w.
      let x = to_sum names o h.2.0 h.0 h.1 [] h.2.1 h.3 in
      let tail : x.1 ≡ ts = done names x.5 x.4 ∙ sym h.4 in
      elim same [
        | inl e ↦ (_, w_as names (λ i. b ++ (sym e i ∷ tail i)) (w_less names w x.3))
        | inr (inl e) ↦ (_, w_as names (λ i. b ++ (sym e i ∷ tail i)) (w_less_eq names w x.3))
        | inr (inr e) ↦ (_, w_as names (λ i. b ++ (sym e i ∷ tail i)) (w_equal names w x.3))
      ]

  whole_back : (es : List ExpressionDue) (s : List ℕ) (ts : Pieces) → IsHeld names s → then_also (factor_follow 0 s) (times 0 ∷ plus 0 ∷ compare 0 ∷ []) ≡ Some es → AllSpelled names es ts → Spelled names whole (s ∷ ts)
  whole_back es s ts held e h = by_follow (factor_follow 0 s) refl e
    where
      by_follow : (x : Option (List ExpressionDue)) → factor_follow 0 s ≡ x → then_also x (times 0 ∷ plus 0 ∷ compare 0 ∷ []) ≡ Some es → Spelled names whole (s ∷ ts)
      by_follow None ex f = let none : ⊥ = cc in absurd none
      by_follow (Some gs) ex f =
          let same : gs ++ times 0 ∷ plus 0 ∷ compare 0 ∷ [] ≡ es = cc in
          let r = Alls-split expression_layer (Spelled names) gs (times 0 ∷ plus 0 ∷ compare 0 ∷ []) ts (subst (λ (ds : List ExpressionDue). AllSpelled names ds ts) (sym same) h) in
          let first = factor_back names 0 gs s r.0 held ex r.2 in
          let w = to_whole names 0 first.0 (s ∷ r.0) r.1 [] first.1 r.3 in
          (w.0, w_as names (done names w.5 w.4 ∙ ap (λ z. s ∷ z) (sym r.4)) w.3)

  -- from what is due after a token to what is due before it
  pub unfollow : (d : ExpressionDue) (s : List ℕ) (es : List ExpressionDue) (ts : Pieces) → IsHeld names s → expression_follow d s ≡ Some es → AllSpelled names es ts → Spelled names d (s ∷ ts)
  unfollow whole s es ts held e h = whole_back es s ts held e h
  unfollow (factor o) s es ts held e h = factor_back names o es s ts held e h
  unfollow (times o) s es ts held e h = by_test (bytes_eq s (codes "*")) refl e
    where
      by_test : (b : Bool) → bytes_eq s (codes "*") ≡ b → (if b then Some (factor o ∷ times o ∷ []) else None) ≡ Some es → Spelled names (times o) (s ∷ ts)
      by_test true eb f = let due : es ≡ factor o ∷ times o ∷ [] = cc in times_back o s ts (bytes_same s (codes "*") eb) (subst (λ (ds : List ExpressionDue). AllSpelled names ds ts) due h)
      by_test false eb f = let none : ⊥ = cc in absurd none
  unfollow (plus o) s es ts held e h = by_tests (bytes_eq s (codes "+")) (bytes_eq s (codes "-")) refl refl e
    where
      at : (s ≡ codes "+") ⊎ (s ≡ codes "-") → es ≡ factor o ∷ times o ∷ plus o ∷ [] → Spelled names (plus o) (s ∷ ts)
      at same due = plus_back o s ts same (subst (λ (ds : List ExpressionDue). AllSpelled names ds ts) due h)

      by_tests : (b c : Bool) → bytes_eq s (codes "+") ≡ b → bytes_eq s (codes "-") ≡ c → (if b || c then Some (factor o ∷ times o ∷ plus o ∷ []) else None) ≡ Some es → Spelled names (plus o) (s ∷ ts)
      by_tests true c eb ec f = at (inl (bytes_same s (codes "+") eb)) cc
      by_tests false true eb ec f = at (inr (bytes_same s (codes "-") ec)) cc
      by_tests false false eb ec f = let none : ⊥ = cc in absurd none
  unfollow (compare o) s es ts held e h = by_tests (bytes_eq s (codes "<")) (bytes_eq s (codes "<=")) (bytes_eq s (codes "==")) refl refl refl e
    where
      at : (s ≡ codes "<") ⊎ ((s ≡ codes "<=") ⊎ (s ≡ codes "==")) → es ≡ factor o ∷ times o ∷ plus o ∷ [] → Spelled names (compare o) (s ∷ ts)
      at same due = compare_back o s ts same (subst (λ (ds : List ExpressionDue). AllSpelled names ds ts) due h)

      by_tests : (b c d : Bool) → bytes_eq s (codes "<") ≡ b → bytes_eq s (codes "<=") ≡ c → bytes_eq s (codes "==") ≡ d → (if b || (c || d) then Some (factor o ∷ times o ∷ plus o ∷ []) else None) ≡ Some es
          → Spelled names (compare o) (s ∷ ts)
      by_tests true c d eb ec ed f = at (inl (bytes_same s (codes "<") eb)) cc
      by_tests false true d eb ec ed f = at (inr (inl (bytes_same s (codes "<=") ec))) cc
      by_tests false false true eb ec ed f = at (inr (inr (bytes_same s (codes "==") ed))) cc
      by_tests false false false eb ec ed f = let none : ⊥ = cc in absurd none
  unfollow after_minus s es ts held e h = by_test (is_number s) refl e
    where
      by_test : (b : Bool) → is_number s ≡ b → (if b then Some [] else None) ≡ Some es → Spelled names after_minus (s ∷ ts)
      by_test true eb f = let due : es ≡ [] = cc in let none : ts ≡ [] = subst (λ (ds : List ExpressionDue). AllSpelled names ds ts) due h in (s, eb, ap (λ z. s ∷ z) none)
      by_test false eb f = let none : ⊥ = cc in absurd none
  unfollow (fixed p) s es ts held e h = by_test (bytes_eq s p) refl e
    where
      by_test : (b : Bool) → bytes_eq s p ≡ b → (if b then Some [] else None) ≡ Some es → Spelled names (fixed p) (s ∷ ts)
      by_test true eb f = let due : es ≡ [] = cc in let none : ts ≡ [] = subst (λ (ds : List ExpressionDue). AllSpelled names ds ts) due h in λ i. bytes_same s p eb i ∷ none i
      by_test false eb f = let none : ⊥ = cc in absurd none

  pub none_spelled : (d : ExpressionDue) → expression_may_be_none d ≡ true → Spelled names d []
  none_spelled whole e = let none : ⊥ = cc in absurd none
  none_spelled (factor o) e = let none : ⊥ = cc in absurd none
  none_spelled (times o) e = λ t b w. (t, w_as names (sym (append-nil b)) w)
  none_spelled (plus o) e = λ t b w. (t, w_as names (sym (append-nil b)) w)
  none_spelled (compare o) e = λ t b w. (t, w_as names (sym (append-nil b)) (w_sum names w))
  none_spelled after_minus e = let none : ⊥ = cc in absurd none
  none_spelled (fixed p) e = let none : ⊥ = cc in absurd none

  pub some_spelled : (d : ExpressionDue) → (a : Pieces) × Spelled names d a
  some_spelled whole = (codes "true" ∷ [], (_, w_sum names (w_term names (w_factor names (w_true names 0)))))
  some_spelled (factor o) = (codes "true" ∷ [], (_, w_true names o))
  some_spelled (times o) = ([], none_spelled (times o) refl)
  some_spelled (plus o) = ([], none_spelled (plus o) refl)
  some_spelled (compare o) = ([], none_spelled (compare o) refl)
  some_spelled after_minus = (codes "0" ∷ [], (codes "0", refl, refl))
  some_spelled (fixed p) = (p ∷ [], refl)
