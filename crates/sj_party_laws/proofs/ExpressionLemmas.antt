-- What is due in an expression after a token, and the token,
-- are what was due before it, within limits.
use Rattle.std.proofs.Common.{◌≡◌, ℕ, suc, Bool, true, false, List, [], ◌∷◌, ◌++◌, Some, None, refl, ap, sym, subst, ◌∙◌, append_assoc, append-nil, ◌⊎◌, inl, inr}
use Rattle.std.specs.Prelude.{codes, if◌then◌else◌, ◌&&◌, ◌||◌, not, nat_le, pos, neg_ℤ}
use Rattle.std.specs.Str.Parse.{digits_value}
use Rattle.std.specs.Str.{bytes_eq}
use Rattle.std.proofs.lemmas.Bool.{leb-false}
use Rattle.sj_lang.specs.declared.party.Op.TheVariants.{Add, Sub, Mul, Less, LessEq, Equal}
use Rattle.sj_lang.specs.declared.party.Op.{Op}
use Rattle.sj_lang.specs.Term as term
use Rattle.sj_lang.specs.Limits.{Limits}
use Rattle.sj_grammar.specs.Tables.{Spelling}
use Rattle.sj_grammar.specs.Positions.{Pieces}
use Rattle.sj_grammar.specs.Expressions.{Spelt, operand_count}
use Rattle.sj_grammar.specs.Expressions as level
use Rattle.sj_grammar.specs.ExpressionDues.{ExpressionDue, factor, times, plus, compare, after_minus, fixed, expression_at, is_operand, is_long, factor_follow, factor_passes}
use Rattle.sj_expr.proofs.TestLemmas.{bytes_same}
use Rattle.sj_party_laws.proofs.ChainLemmas.{nothing, first}
use Rattle.sj_party_laws.proofs.CountLemmas.{Counts, counts_then}
use Rattle.sj_party_laws.proofs.TermLemmas.{IsKnown, Reaches, Spelled, AllSpelled, reaches_as, to_term, to_sum, to_whole, ended, operand_spelled}

module _ (L : Limits) (names : Spelling) where
  -- a factor by its first token
  pub factor_back : (o n m : ℕ) (es : List ExpressionDue) (s : List ℕ) (ts : Pieces) → IsKnown names s → factor_follow o s ≡ Some es → factor_passes L n o s ≡ false → AllSpelled L names (if is_operand s then suc n else n) es ts m
      → Reaches L names level.factor o n (s ∷ ts) m
  factor_back o n m es s ts held e room h = by_tests (is_operand s) (bytes_eq s (codes "-")) (bytes_eq s (codes "not")) (bytes_eq s (codes "(")) refl refl refl refl e room h
    where
      operand : is_operand s ≡ true → (nat_le L.operands n || is_long L s) ≡ false → (xs : Pieces) → AllSpelled L names (suc n) [] xs m → Reaches L names level.factor o n (s ∷ xs) m
      operand t free xs g =
          let x = ended L names (suc n) m xs g in
          subst (λ (y : Pieces). Reaches L names level.factor o n (s ∷ y) m) (sym x.1) (subst (λ (j : ℕ). Reaches L names level.factor o n (s ∷ []) j) x.0 (operand_spelled L names o n s held t free))

      minus : s ≡ codes "-" → (xs : Pieces) → AllSpelled L names n (after_minus ∷ []) xs m → Reaches L names level.factor o n (s ∷ xs) m
      minus same _ (first x nothing) =
          (term.int (neg_ℤ (pos (digits_value 10 x.0))), subst (λ (y : Pieces). Spelt L names level.factor o (term.int (neg_ℤ (pos (digits_value 10 x.0)))) y) (λ i. sym same i ∷ (sym x.2 i ++ [])) (level.of_minus x.1), x.3)

      negated : s ≡ codes "not" → (nat_le L.nesting o) ≡ false → (xs : Pieces) → AllSpelled L names n (factor (suc o) ∷ []) xs m → Reaches L names level.factor o n (s ∷ xs) m
      negated same deep _ (first {a} x nothing) =
          (term.not x.0, subst (λ (y : Pieces). Spelt L names level.factor o (term.not x.0) y) (λ i. sym same i ∷ sym (append-nil a) i) (level.of_not (leb-false L.nesting o deep) x.1), x.2)

      enclosed : s ≡ codes "(" → (nat_le L.nesting o) ≡ false → (xs : Pieces) → AllSpelled L names n (factor (suc o) ∷ times (suc o) ∷ plus (suc o) ∷ compare (suc o) ∷ fixed (codes ")") ∷ []) xs m → Reaches L names level.factor o n (s ∷ xs) m
      enclosed same deep _ (first {k} {a} {b} x more) =
          let w = to_whole L names (suc o) n k m a b (fixed (codes ")") ∷ []) x more in
          closed w.front w.back w.between w.reaches w.behind w.same
        where
          closed : (c d : Pieces) (j : ℕ) → Reaches L names level.whole (suc o) n c j → AllSpelled L names j (fixed (codes ")") ∷ []) d m → a ++ b ≡ c ++ d → Reaches L names level.factor o n (s ∷ (a ++ b)) m
          closed c _ j w (first f nothing) all = (
            w.0,
            subst (λ (y : Pieces). Spelt L names level.factor o w.0 y) (λ i. sym same i ∷ ((λ t. c ++ (sym f.1 t ++ [])) ∙ sym all) i) (level.of_parens (leb-false L.nesting o deep) w.1),
            subst (λ (j : ℕ). Counts L.operands n (operand_count w.0) j) f.0 w.2,
          )

      by_tests : (x m' n' p : Bool) → is_operand s ≡ x → bytes_eq s (codes "-") ≡ m' → bytes_eq s (codes "not") ≡ n' → bytes_eq s (codes "(") ≡ p
          → (if x then Some [] else (if m' then Some (after_minus ∷ []) else (if n' then Some (factor (suc o) ∷ []) else (if p then Some (expression_at (suc o) ++ fixed (codes ")") ∷ []) else None)))) ≡ Some es
          → (if x then nat_le L.operands n || is_long L s else not m' && nat_le L.nesting o) ≡ false → AllSpelled L names (if x then suc n else n) es ts m → Reaches L names level.factor o n (s ∷ ts) m
      by_tests true m' n' p ex em en ep f free g = let due : es ≡ [] = cc in operand ex free ts (subst (λ (gs : List ExpressionDue). AllSpelled L names (suc n) gs ts m) due g)
      by_tests false true n' p ex em en ep f free g = let due : es ≡ after_minus ∷ [] = cc in minus (bytes_same s (codes "-") em) ts (subst (λ (gs : List ExpressionDue). AllSpelled L names n gs ts m) due g)
      by_tests false false true p ex em en ep f free g = let due : es ≡ factor (suc o) ∷ [] = cc in negated (bytes_same s (codes "not") en) free ts (subst (λ (gs : List ExpressionDue). AllSpelled L names n gs ts m) due g)
      by_tests false false false true ex em en ep f free g =
          let due : es ≡ expression_at (suc o) ++ fixed (codes ")") ∷ [] = cc in enclosed (bytes_same s (codes "(") ep) free ts (subst (λ (gs : List ExpressionDue). AllSpelled L names n gs ts m) due g)
      by_tests false false false false ex em en ep f free g = let none : ⊥ = cc in absurd none

  -- after an operator: what it joins, and what is due after that
  pub times_back : (o n m : ℕ) (s : List ℕ) (ts : Pieces) → s ≡ codes "*" → AllSpelled L names n (factor o ∷ times o ∷ []) ts m → Spelled L names n (times o) (s ∷ ts) m
  times_back o n m s _ same (first {k = j} {a = x} f (first {a = y} more nothing)) = λ k b w.
      let both : Reaches L names level.term o k (b ++ codes "*" ∷ x) j = (term.two Mul w.0 f.0, level.of_product w.1 f.1, counts_then L.operands k (operand_count w.0) n (operand_count f.0) j w.2 f.2) in
      reaches_as L names level.term o k m ((b ++ codes "*" ∷ x) ++ y) (b ++ s ∷ (x ++ (y ++ []))) (append_assoc b (codes "*" ∷ x) y ∙ (λ i. b ++ sym same i ∷ (x ++ sym (append-nil y) i))) (more k (b ++ codes "*" ∷ x) both)

  -- a term after a sign, and then more
  pub added : (o n m : ℕ) (s : List ℕ) (ts : Pieces) → (s ≡ codes "+") ⊎ (s ≡ codes "-") → AllSpelled L names n (factor o ∷ times o ∷ plus o ∷ []) ts m → Spelled L names n (plus o) (s ∷ ts) m
  added o n m s _ same (first {k = j} {a = x} {b = y} f more) =
      let t = to_term L names o n j m x y (plus o ∷ []) f more in
      then_more t.front t.back t.between t.reaches t.behind t.same
    where
      joins : (c : Pieces) (i k : ℕ) (b : Pieces) → Reaches L names level.sum o k b n → Reaches L names level.term o n c i → Reaches L names level.sum o k (b ++ s ∷ c) i
      joins c i k b w u = elim same [
        | inl e ↦ (term.two Add w.0 u.0, subst (λ (z : Pieces). Spelt L names level.sum o (term.two Add w.0 u.0) z) (λ h. b ++ sym e h ∷ c) (level.of_addition w.1 u.1), counts_then L.operands k (operand_count w.0) n (operand_count u.0) i w.2 u.2)
        | inr e ↦ (term.two Sub w.0 u.0, subst (λ (z : Pieces). Spelt L names level.sum o (term.two Sub w.0 u.0) z) (λ h. b ++ sym e h ∷ c) (level.of_difference w.1 u.1), counts_then L.operands k (operand_count w.0) n (operand_count u.0) i w.2 u.2)
      ]

      then_more : (c d : Pieces) (i : ℕ) → Reaches L names level.term o n c i → AllSpelled L names i (plus o ∷ []) d m → x ++ y ≡ c ++ d → Spelled L names n (plus o) (s ∷ (x ++ y)) m
      then_more c _ i u (first {a = z} g nothing) all = λ k b w.
          reaches_as L names level.sum o k m ((b ++ s ∷ c) ++ z) (b ++ s ∷ (x ++ y)) (append_assoc b (s ∷ c) z ∙ ap (λ r. b ++ s ∷ r) ((λ h. c ++ sym (append-nil z) h) ∙ sym all)) (g k (b ++ s ∷ c) (joins c i k b w u))

  -- a sum after a comparison
  pub compared : (o n m : ℕ) (s : List ℕ) (ts : Pieces) → (s ≡ codes "<") ⊎ ((s ≡ codes "<=") ⊎ (s ≡ codes "==")) → AllSpelled L names n (factor o ∷ times o ∷ plus o ∷ []) ts m → Spelled L names n (compare o) (s ∷ ts) m
  compared o n m s _ same (first {k = j} {a = x} {b = y} f more) =
      let t = to_sum L names o n j m x y [] f more in
      then_end t.front t.back t.between t.reaches t.behind t.same
    where
      joins : (c : Pieces) (i k : ℕ) (b : Pieces) → Reaches L names level.sum o k b n → Reaches L names level.sum o n c i → Reaches L names level.whole o k (b ++ s ∷ c) i
      joins c i k b w u =
          let count : (op : Op) → Counts L.operands k (operand_count (term.two op w.0 u.0)) i = λ op. counts_then L.operands k (operand_count w.0) n (operand_count u.0) i w.2 u.2 in
          elim same [
            | inl e ↦ (term.two Less w.0 u.0, subst (λ (z : Pieces). Spelt L names level.whole o (term.two Less w.0 u.0) z) (λ h. b ++ sym e h ∷ c) (level.of_less w.1 u.1), count Less)
            | inr (inl e) ↦ (term.two LessEq w.0 u.0, subst (λ (z : Pieces). Spelt L names level.whole o (term.two LessEq w.0 u.0) z) (λ h. b ++ sym e h ∷ c) (level.of_less_eq w.1 u.1), count LessEq)
            | inr (inr e) ↦ (term.two Equal w.0 u.0, subst (λ (z : Pieces). Spelt L names level.whole o (term.two Equal w.0 u.0) z) (λ h. b ++ sym e h ∷ c) (level.of_equal w.1 u.1), count Equal)
          ]

      then_end : (c d : Pieces) (i : ℕ) → Reaches L names level.sum o n c i → AllSpelled L names i [] d m → x ++ y ≡ c ++ d → Spelled L names n (compare o) (s ∷ (x ++ y)) m
      then_end c d i u none all = λ k b w.
          let end = ended L names i m d none in
          let same : c ≡ x ++ y = sym (all ∙ ap (λ r. c ++ r) end.1 ∙ append-nil c) in
          subst (λ (j : ℕ). Reaches L names level.whole o k (b ++ s ∷ (x ++ y)) j) end.0 (reaches_as L names level.whole o k i (b ++ s ∷ c) (b ++ s ∷ (x ++ y)) (ap (λ r. b ++ s ∷ r) same) (joins c i k b w u))
