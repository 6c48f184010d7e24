-- Each due of an expression by its token, within limits.
use Rattle.std.proofs.Common.{◌≡◌, ℕ, suc, Bool, true, false, List, [], ◌∷◌, ◌++◌, Option, Some, None, refl, ap, sym, subst, ◌∙◌, append-nil, inl, inr}
use Rattle.std.specs.Prelude.{codes, if◌then◌else◌, ◌||◌}
use Rattle.std.specs.Str.{bytes_eq}
use Rattle.std.proofs.lemmas.Bool.{leb-false}
use Rattle.sj_lang.specs.Limits.{Limits}
use Rattle.sj_grammar.specs.Literals.{is_number}
use Rattle.sj_grammar.specs.Tables.{Spelling}
use Rattle.sj_grammar.specs.Positions.{Pieces}
use Rattle.sj_grammar.specs.Expressions.{Spelt, operand_count}
use Rattle.sj_grammar.specs.Expressions as level
use Rattle.sj_grammar.specs.ExpressionDues.{ExpressionDue, whole, factor, times, plus, compare, after_minus, fixed, is_operand, factor_follow, factor_passes, then_also, expression_follow, expression_may_be_none, expression_counted, expression_passes}
use Rattle.sj_expr.proofs.TestLemmas.{bytes_same}
use Rattle.sj_party_laws.proofs.ChainLemmas.{in_two}
use Rattle.sj_party_laws.proofs.CountLemmas.{Counts, counts_one, counts_few}
use Rattle.sj_party_laws.proofs.TermLemmas.{IsKnown, Spelled, AllSpelled, reaches_as, as_whole, to_whole, ended}
use Rattle.sj_party_laws.proofs.ExpressionLemmas.{factor_back, times_back, added, compared}

module _ (L : Limits) (names : Spelling) where
  -- an expression by its first token, at which its operands are counted anew
  whole_back : (n m : ℕ) (es : List ExpressionDue) (s : List ℕ) (ts : Pieces) → IsKnown names s → then_also (factor_follow 0 s) (times 0 ∷ plus 0 ∷ compare 0 ∷ []) ≡ Some es → factor_passes L 0 0 s ≡ false
      → AllSpelled L names (if is_operand s then 1 else 0) es ts m → Spelled L names n whole (s ∷ ts) m
  whole_back n m es s ts held e room h = by_follow (factor_follow 0 s) refl e
    where
      by_follow : (x : Option (List ExpressionDue)) → factor_follow 0 s ≡ x → then_also x (times 0 ∷ plus 0 ∷ compare 0 ∷ []) ≡ Some es → Spelled L names n whole (s ∷ ts) m
      by_follow None ex f = let none : ⊥ = cc in absurd none
      by_follow (Some gs) ex f =
          let left : List ExpressionDue = times 0 ∷ plus 0 ∷ compare 0 ∷ [] in
          let count : ℕ = if is_operand s then 1 else 0 in
          let due : es ≡ gs ++ left = cc in
          let parts = in_two (Spelled L names) gs left count m ts (subst (λ (ds : List ExpressionDue). AllSpelled L names count ds ts m) due h) in
          let one = factor_back L names 0 0 parts.between gs s parts.front held ex room parts.before in
          let w = to_whole L names 0 0 parts.between m (s ∷ parts.front) parts.back [] one parts.behind in
          let end = ended L names w.between m w.back w.behind in
          let all : w.front ≡ s ∷ ts = sym (ap (λ r. s ∷ r) parts.same ∙ w.same ∙ ap (λ r. w.front ++ r) end.1 ∙ append-nil w.front) in
          (w.reaches.0, subst (λ (a : Pieces). Spelt L names level.whole 0 w.reaches.0 a) all w.reaches.1, counts_few L.operands (operand_count w.reaches.0) w.between w.reaches.2)

  -- where a test is met, these are the dues after the token
  from_test : {X : Type 0} (n m : ℕ) (es ds : List ExpressionDue) (ts : Pieces) (b : Bool) → (b ≡ true → AllSpelled L names n ds ts m → X) → (if b then Some ds else None) ≡ Some es → AllSpelled L names n es ts m → X
  from_test n m es ds ts true spelled e h = let due : es ≡ ds = cc in spelled refl (subst (λ (gs : List ExpressionDue). AllSpelled L names n gs ts m) due h)
  from_test n m es ds ts false spelled e h = let none : ⊥ = cc in absurd none

  -- each due by its token
  pub spelled_back : (n m : ℕ) (d : ExpressionDue) (s : List ℕ) (es : List ExpressionDue) (ts : Pieces) → IsKnown names s → expression_follow d s ≡ Some es → expression_passes L n d s ≡ false → AllSpelled L names (expression_counted n d s) es ts m
      → Spelled L names n d (s ∷ ts) m
  spelled_back n m whole s es ts held e room h = whole_back n m es s ts held e room h
  spelled_back n m (factor o) s es ts held e room h = factor_back L names o n m es s ts held e room h
  spelled_back n m (times o) s es ts held e room h = from_test n m es (factor o ∷ times o ∷ []) ts (bytes_eq s (codes "*")) (λ t g. times_back L names o n m s ts (bytes_same s (codes "*") t) g) e h
  spelled_back n m (plus o) s es ts held e room h = from_test n m es (factor o ∷ times o ∷ plus o ∷ []) ts (bytes_eq s (codes "+") || bytes_eq s (codes "-")) (λ t g. by_tests (bytes_eq s (codes "+")) (bytes_eq s (codes "-")) refl refl t g) e h
    where
      by_tests : (b c : Bool) → bytes_eq s (codes "+") ≡ b → bytes_eq s (codes "-") ≡ c → (b || c) ≡ true → AllSpelled L names n (factor o ∷ times o ∷ plus o ∷ []) ts m → Spelled L names n (plus o) (s ∷ ts) m
      by_tests true c eb ec t g = added L names o n m s ts (inl (bytes_same s (codes "+") eb)) g
      by_tests false true eb ec t g = added L names o n m s ts (inr (bytes_same s (codes "-") ec)) g
      by_tests false false eb ec t g = let none : ⊥ = cc in absurd none
  spelled_back n m (compare o) s es ts held e room h =
      from_test n m es (factor o ∷ times o ∷ plus o ∷ []) ts (bytes_eq s (codes "<") || (bytes_eq s (codes "<=") || bytes_eq s (codes "=="))) (λ t g. by_tests (bytes_eq s (codes "<")) (bytes_eq s (codes "<=")) (bytes_eq s (codes "==")) refl refl refl t g) e h
    where
      by_tests : (b c d : Bool) → bytes_eq s (codes "<") ≡ b → bytes_eq s (codes "<=") ≡ c → bytes_eq s (codes "==") ≡ d → (b || (c || d)) ≡ true → AllSpelled L names n (factor o ∷ times o ∷ plus o ∷ []) ts m → Spelled L names n (compare o) (s ∷ ts) m
      by_tests true c d eb ec ed t g = compared L names o n m s ts (inl (bytes_same s (codes "<") eb)) g
      by_tests false true d eb ec ed t g = compared L names o n m s ts (inr (inl (bytes_same s (codes "<=") ec))) g
      by_tests false false true eb ec ed t g = compared L names o n m s ts (inr (inr (bytes_same s (codes "==") ed))) g
      by_tests false false false eb ec ed t g = let none : ⊥ = cc in absurd none
  spelled_back n m after_minus s es ts held e room h = from_test (suc n) m es [] ts (is_number s) (λ t g.
      let x = ended L names (suc n) m ts g in
      (s, t, ap (λ r. s ∷ r) x.1, subst (λ (j : ℕ). Counts L.operands n 1 j) x.0 (counts_one L.operands n (leb-false L.operands n room)))) e h
  spelled_back n m (fixed p) s es ts held e room h = from_test n m es [] ts (bytes_eq s p) (λ t g. let x = ended L names n m ts g in (x.0, λ i. bytes_same s p t i ∷ x.1 i)) e h

  -- nothing in the place of what need not be
  pub none_spelled : (n : ℕ) (d : ExpressionDue) → expression_may_be_none d ≡ true → Spelled L names n d [] n
  none_spelled n whole e = let none : ⊥ = cc in absurd none
  none_spelled n (factor o) e = let none : ⊥ = cc in absurd none
  none_spelled n (times o) e = λ k b w. reaches_as L names level.term o k n b (b ++ []) (sym (append-nil b)) w
  none_spelled n (plus o) e = λ k b w. reaches_as L names level.sum o k n b (b ++ []) (sym (append-nil b)) w
  none_spelled n (compare o) e = λ k b w. reaches_as L names level.whole o k n b (b ++ []) (sym (append-nil b)) (as_whole L names o k n b w)
  none_spelled n after_minus e = let none : ⊥ = cc in absurd none
  none_spelled n (fixed p) e = let none : ⊥ = cc in absurd none
