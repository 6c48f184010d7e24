-- What is due can be completed to an expression.
use Rattle.std.proofs.Common.{◌≡◌, ℕ, suc, Bool, true, false, List, [], ◌∷◌, ◌++◌, Some, None, refl, ap, sym, subst, ◌∙◌, append_assoc, append-nil}
use Rattle.std.specs.Prelude.{codes, if◌then◌else◌, ◌&&◌, ◌||◌, not}
use Rattle.std.specs.List.{list_all}
use Rattle.std.specs.Str.{bytes_eq}
use Rattle.sj_lang.specs.Term.{Term}
use Rattle.sj_grammar.specs.Bytes.{is_printable}
use Rattle.sj_grammar.specs.Literals.{is_number, is_largest, is_text, quoted}
use Rattle.sj_grammar.specs.Names.{is_name}
use Rattle.sj_grammar.specs.Tables.{Spelling}
use Rattle.sj_grammar.specs.Positions.{Pieces}
use Rattle.sj_grammar.specs.Expressions as level
use Rattle.sj_grammar.specs.ExpressionDues.{ExpressionDue, whole, factor, times, plus, compare, after_minus, fixed, expression_at, is_operand, factor_follow, expression_layer}
use Rattle.sj_grammar.proofs.SpellingLemmas.{IsHeld}
use Rattle.sj_grammar.proofs.CompletionLemmas.{Alls}
use Rattle.sj_expr.proofs.TokenLemmas.{text_quoted}
use Rattle.sj_expr.proofs.NumberLemmas.{small_number}
use Rattle.sj_expr.proofs.WideLimitLemmas.{Writes, w_as, w_number, w_minus, w_true, w_false, w_text, w_name, w_not, w_parens, w_factor, w_term}
use Rattle.sj_expr.proofs.TestLemmas.{bytes_same}

module _ (names : Spelling) where
  -- the pieces are what is due; what may follow goes on what stands before it
  abbrev pub Spelled : ExpressionDue → Pieces → Type 0
  Spelled whole a = (t : Term) × Writes names level.whole 0 t a
  Spelled (factor o) a = (t : Term) × Writes names level.factor o t a
  Spelled (times o) a = (t : Term) (b : Pieces) → Writes names level.term o t b → (u : Term) × Writes names level.term o u (b ++ a)
  Spelled (plus o) a = (t : Term) (b : Pieces) → Writes names level.sum o t b → (u : Term) × Writes names level.sum o u (b ++ a)
  Spelled (compare o) a = (t : Term) (b : Pieces) → Writes names level.sum o t b → (u : Term) × Writes names level.whole o u (b ++ a)
  Spelled after_minus a = (s : List ℕ) × (is_number s ≡ true) × (a ≡ s ∷ [])
  Spelled (fixed p) a = a ≡ p ∷ []

  abbrev pub AllSpelled : List ExpressionDue → Pieces → Type 0
  AllSpelled ds ts = Alls expression_layer Spelled ds ts

  -- after a factor
  pub to_term : (o : ℕ) (t : Term) (a b : Pieces) (rest : List ExpressionDue) → Writes names level.factor o t a → AllSpelled (times o ∷ rest) b → (u : Term) × (c : Pieces) × (d : Pieces) × Writes names level.term o u c × AllSpelled rest d × (a ++ b ≡ c ++ d)
  to_term o t a b rest w h =
      let x = h.2 t a (w_factor names w) in
      (x.0, a ++ h.0, h.1, x.1, h.3, ap (λ z. a ++ z) h.4 ∙ sym (append_assoc a h.0 h.1))

  pub to_sum : (o : ℕ) (t : Term) (a b : Pieces) (rest : List ExpressionDue) → Writes names level.factor o t a → AllSpelled (times o ∷ plus o ∷ rest) b → (u : Term) × (c : Pieces) × (d : Pieces) × Writes names level.sum o u c × AllSpelled rest d × (a ++ b ≡ c ++ d)
  to_sum o t a b rest w h =
      let x = to_term o t a b (plus o ∷ rest) w h in
      let h2 = x.4 in
      let y = h2.2 x.0 x.1 (w_term names x.3) in
      (y.0, x.1 ++ h2.0, h2.1, y.1, h2.3, x.5 ∙ ap (λ z. x.1 ++ z) h2.4 ∙ sym (append_assoc x.1 h2.0 h2.1))

  pub to_whole : (o : ℕ) (t : Term) (a b : Pieces) (rest : List ExpressionDue) → Writes names level.factor o t a → AllSpelled (times o ∷ plus o ∷ compare o ∷ rest) b → (u : Term) × (c : Pieces) × (d : Pieces) × Writes names level.whole o u c × AllSpelled rest d × (a ++ b ≡ c ++ d)
  to_whole o t a b rest w h =
      let x = to_sum o t a b (compare o ∷ rest) w h in
      let h2 = x.4 in
      let y = h2.2 x.0 x.1 x.3 in
      (y.0, x.1 ++ h2.0, h2.1, y.1, h2.3, x.5 ∙ ap (λ z. x.1 ++ z) h2.4 ∙ sym (append_assoc x.1 h2.0 h2.1))

  -- where nothing else is due
  pub done : {c d a : Pieces} → a ≡ c ++ d → d ≡ [] → c ≡ a
  done {c} e f = sym (append-nil c) ∙ ap (λ z. c ++ z) (sym f) ∙ sym e

  -- an operand alone
  operand_spelled : (o : ℕ) (s : List ℕ) → IsHeld names s → is_operand s ≡ true → Spelled (factor o) (s ∷ [])
  operand_spelled o s held t = by_tests (is_number s) (is_largest s) (is_text s) (is_name s) (bytes_eq s (codes "true")) (bytes_eq s (codes "false")) refl refl refl refl refl refl t
    where
      as_text : is_text s ≡ true → Spelled (factor o) (s ∷ [])
      as_text e =
          let parts = text_quoted s e in
          let spelled = held.1.1 in
          let inside : list_all is_printable (names.text held.1.0) ≡ true = subst (λ (x : List ℕ). list_all is_printable x ≡ true) (sym spelled) parts.1 in
          (_, w_as names (ap (λ x. x ∷ []) (ap quoted spelled ∙ sym parts.0)) (w_text names o held.1.0 inside held.1.2))

      as_name : is_name s ≡ true → Spelled (factor o) (s ∷ [])
      as_name e =
          let spelled = held.0.1 in
          (_, w_as names (ap (λ x. x ∷ []) spelled) (w_name names o held.0.0 (subst (λ (x : List ℕ). is_name x ≡ true) (sym spelled) e) held.0.2))

      by_tests : (n l x m y f : Bool) → is_number s ≡ n → is_largest s ≡ l → is_text s ≡ x → is_name s ≡ m → bytes_eq s (codes "true") ≡ y → bytes_eq s (codes "false") ≡ f
          → ((n && not l) || (x || (m || (y || f)))) ≡ true → Spelled (factor o) (s ∷ [])
      by_tests true false x m y f en el ex em ey ef h = (_, w_number names o s en (small_number s en el))
      by_tests true true true m y f en el ex em ey ef h = as_text ex
      by_tests false l true m y f en el ex em ey ef h = as_text ex
      by_tests true true false true y f en el ex em ey ef h = as_name em
      by_tests false l false true y f en el ex em ey ef h = as_name em
      by_tests true true false false true f en el ex em ey ef h = (_, w_as names (ap (λ x. x ∷ []) (sym (bytes_same s (codes "true") ey))) (w_true names o))
      by_tests false l false false true f en el ex em ey ef h = (_, w_as names (ap (λ x. x ∷ []) (sym (bytes_same s (codes "true") ey))) (w_true names o))
      by_tests true true false false false true en el ex em ey ef h = (_, w_as names (ap (λ x. x ∷ []) (sym (bytes_same s (codes "false") ef))) (w_false names o))
      by_tests false l false false false true en el ex em ey ef h = (_, w_as names (ap (λ x. x ∷ []) (sym (bytes_same s (codes "false") ef))) (w_false names o))
      by_tests true true false false false false en el ex em ey ef h = let none : ⊥ = cc in absurd none
      by_tests false l false false false false en el ex em ey ef h = let none : ⊥ = cc in absurd none

  -- from what is due after a token to what is due before it
  pub factor_back : (o : ℕ) (es : List ExpressionDue) (s : List ℕ) (ts : Pieces) → IsHeld names s → factor_follow o s ≡ Some es → AllSpelled es ts → Spelled (factor o) (s ∷ ts)
  factor_back o es s ts held e h = by_tests (is_operand s) (bytes_eq s (codes "-")) (bytes_eq s (codes "not")) (bytes_eq s (codes "(")) refl refl refl refl e
    where
      due_is : (ds : List ExpressionDue) → es ≡ ds → AllSpelled ds ts
      due_is ds same = subst (λ (gs : List ExpressionDue). AllSpelled gs ts) same h

      by_tests : (x m n p : Bool) → is_operand s ≡ x → bytes_eq s (codes "-") ≡ m → bytes_eq s (codes "not") ≡ n → bytes_eq s (codes "(") ≡ p
          → (if x then Some [] else (if m then Some (after_minus ∷ []) else (if n then Some (factor (suc o) ∷ []) else (if p then Some (expression_at (suc o) ++ fixed (codes ")") ∷ []) else None)))) ≡ Some es
          → Spelled (factor o) (s ∷ ts)
      by_tests true m n p ex em en ep f =
          let none = due_is [] cc in
          subst (λ (x : Pieces). Spelled (factor o) (s ∷ x)) (sym none) (operand_spelled o s held ex)
      by_tests false true n p ex em en ep f =
          let g = due_is (after_minus ∷ []) cc in
          let x = g.2 in
          let tail : ts ≡ x.0 ∷ [] = g.4 ∙ (λ i. x.2 i ++ g.3 i) in
          (_, w_as names (sym (λ i. bytes_same s (codes "-") em i ∷ tail i)) (w_minus names o x.0 x.1))
      by_tests false false true p ex em en ep f =
          let g = due_is (factor (suc o) ∷ []) cc in
          let head = sym (bytes_same s (codes "not") en) in
          let tail = done g.4 g.3 in
          (_, w_as names (λ i. head i ∷ tail i) (w_not names g.2.1))
      by_tests false false false true ex em en ep f =
          let g = due_is (expression_at (suc o) ++ fixed (codes ")") ∷ []) cc in
          let w = to_whole (suc o) g.2.0 g.0 g.1 (fixed (codes ")") ∷ []) g.2.1 g.3 in
          let c = w.4 in
          let tail : ts ≡ w.1 ++ codes ")" ∷ [] = g.4 ∙ w.5 ∙ ap (λ z. w.1 ++ z) (c.4 ∙ (λ i. c.2 i ++ c.3 i)) in
          (_, w_as names (sym (λ i. bytes_same s (codes "(") ep i ∷ tail i)) (w_parens names w.3))
      by_tests false false false false ex em en ep f = let none : ⊥ = cc in absurd none
