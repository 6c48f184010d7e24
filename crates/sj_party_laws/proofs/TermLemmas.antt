-- The tokens that are what is due in an expression, within limits.
use Rattle.std.proofs.Common.{◌≡◌, ℕ, suc, ◌≤◌, Bool, true, false, List, [], ◌∷◌, ◌++◌, length, refl, ap, sym, subst, ◌∙◌, append_assoc}
use Rattle.std.specs.Prelude.{codes, ◌&&◌, ◌||◌, not, IsTrue, nat_le, nat_lt}
use Rattle.std.specs.List.{list_all}
use Rattle.std.specs.Str.{bytes_eq}
use Rattle.std.proofs.lemmas.Bool.{leb-false, ltb-false}
use Rattle.sj_lang.specs.Term.{Term}
use Rattle.sj_lang.specs.Term as term
use Rattle.sj_grammar.specs.Bytes.{is_printable}
use Rattle.sj_lang.specs.Limits.{Limits}
use Rattle.sj_grammar.specs.Literals.{is_number, is_largest, is_text, inner, quoted}
use Rattle.sj_grammar.specs.Names.{is_name}
use Rattle.sj_grammar.specs.Tables.{Spelling}
use Rattle.sj_grammar.specs.Positions.{Pieces}
use Rattle.sj_grammar.specs.Expressions.{Level, Spelt, operand_count}
use Rattle.sj_grammar.specs.Expressions as level
use Rattle.sj_grammar.specs.ExpressionDues.{ExpressionDue, whole, factor, times, plus, compare, after_minus, fixed, is_operand, is_long}
use Rattle.sj_grammar.proofs.SpellingLemmas.{HasFirst}
use Rattle.sj_expr.proofs.TokenLemmas.{text_quoted}
use Rattle.sj_expr.proofs.NumberLemmas.{small_number}
use Rattle.sj_expr.proofs.TestLemmas.{bytes_same}
use Rattle.sj_party_laws.proofs.ChainLemmas.{Chained, nothing, first}
use Rattle.sj_party_laws.proofs.CountLemmas.{Counts, counts_one}
use Rattle.sj_party_laws.proofs.ProtocolLemmas.{first_passes, second_passes}

-- the piece has its first number as a name, and as a text
pub record IsKnown (names : Spelling) (s : List ℕ) : Type 0 where
  pub name : is_name s ≡ true → HasFirst names.word s
  pub text : is_text s ≡ true → HasFirst names.text (inner s)

module _ (L : Limits) (names : Spelling) where
  -- from k operands on, the pieces are an expression of that level, and there are m
  abbrev pub Reaches : Level → ℕ → ℕ → Pieces → ℕ → Type 0
  Reaches l o k a m = (t : Term) × Spelt L names l o t a × Counts L.operands k (operand_count t) m

  -- the tokens are what is due; what may follow goes on what stands before it
  abbrev pub Spelled : ℕ → ExpressionDue → Pieces → ℕ → Type 0
  Spelled n whole a m = (t : Term) × Spelt L names level.whole 0 t a × (operand_count t ≤ L.operands)
  Spelled n (factor o) a m = Reaches level.factor o n a m
  Spelled n (times o) a m = (k : ℕ) (b : Pieces) → Reaches level.term o k b n → Reaches level.term o k (b ++ a) m
  Spelled n (plus o) a m = (k : ℕ) (b : Pieces) → Reaches level.sum o k b n → Reaches level.sum o k (b ++ a) m
  Spelled n (compare o) a m = (k : ℕ) (b : Pieces) → Reaches level.sum o k b n → Reaches level.whole o k (b ++ a) m
  Spelled n after_minus a m = (s : List ℕ) × (is_number s ≡ true) × (a ≡ s ∷ []) × Counts L.operands n 1 m
  Spelled n (fixed p) a m = (n ≡ m) × (a ≡ p ∷ [])

  -- and one after another
  abbrev pub AllSpelled : ℕ → List ExpressionDue → Pieces → ℕ → Type 0
  AllSpelled n ds ts m = Chained Spelled n ds ts m

  pub reaches_as : (l : Level) (o k m : ℕ) (a b : Pieces) → a ≡ b → Reaches l o k a m → Reaches l o k b m
  reaches_as l o k m a b e r = subst (λ (x : Pieces). Reaches l o k x m) e r

  -- an expression of one level as one of the next
  pub as_term : (o k m : ℕ) (a : Pieces) → Reaches level.factor o k a m → Reaches level.term o k a m
  as_term o k m a r = (r.0, level.of_factor r.1, r.2)

  pub as_sum : (o k m : ℕ) (a : Pieces) → Reaches level.term o k a m → Reaches level.sum o k a m
  as_sum o k m a r = (r.0, level.of_term r.1, r.2)

  pub as_whole : (o k m : ℕ) (a : Pieces) → Reaches level.sum o k a m → Reaches level.whole o k a m
  as_whole o k m a r = (r.0, level.of_sum r.1, r.2)

  -- an expression of that level, and then the rest of what is due
  pub record Begun (l : Level) (o k : ℕ) (ts : Pieces) (rest : List ExpressionDue) (m : ℕ) : Type 0 where
    pub front : Pieces
    pub back : Pieces
    pub between : ℕ
    pub reaches : Reaches l o k front between
    pub behind : AllSpelled between rest back m
    pub same : ts ≡ front ++ back

  -- after a factor: what goes on a term, a sum and a whole expression
  pub to_term : (o k n m : ℕ) (a b : Pieces) (rest : List ExpressionDue) → Reaches level.factor o k a n → AllSpelled n (times o ∷ rest) b m → Begun level.term o k (a ++ b) rest m
  to_term o k n m a _ rest r (first {k = j} {a = x} {b = y} f behind) =
      record { front = a ++ x; back = y; between = j; reaches = f k a (as_term o k n a r); behind = behind; same = sym (append_assoc a x y) }

  pub to_sum : (o k n m : ℕ) (a b : Pieces) (rest : List ExpressionDue) → Reaches level.factor o k a n → AllSpelled n (times o ∷ plus o ∷ rest) b m → Begun level.sum o k (a ++ b) rest m
  to_sum o k n m a b rest r h = let t = to_term o k n m a b (plus o ∷ rest) r h in goes_on t.front t.back t.between t.reaches t.behind t.same
    where
      goes_on : (c d : Pieces) (i : ℕ) → Reaches level.term o k c i → AllSpelled i (plus o ∷ rest) d m → a ++ b ≡ c ++ d → Begun level.sum o k (a ++ b) rest m
      goes_on c _ i t (first {k = j} {a = x} {b = y} f behind) e =
          record { front = c ++ x; back = y; between = j; reaches = f k c (as_sum o k i c t); behind = behind; same = e ∙ sym (append_assoc c x y) }

  pub to_whole : (o k n m : ℕ) (a b : Pieces) (rest : List ExpressionDue) → Reaches level.factor o k a n → AllSpelled n (times o ∷ plus o ∷ compare o ∷ rest) b m → Begun level.whole o k (a ++ b) rest m
  to_whole o k n m a b rest r h = let t = to_sum o k n m a b (compare o ∷ rest) r h in goes_on t.front t.back t.between t.reaches t.behind t.same
    where
      goes_on : (c d : Pieces) (i : ℕ) → Reaches level.sum o k c i → AllSpelled i (compare o ∷ rest) d m → a ++ b ≡ c ++ d → Begun level.whole o k (a ++ b) rest m
      goes_on c _ i t (first {k = j} {a = x} {b = y} f behind) e =
          record { front = c ++ x; back = y; between = j; reaches = f k c t; behind = behind; same = e ∙ sym (append_assoc c x y) }

  -- where nothing else is due
  pub ended : (n m : ℕ) (ts : Pieces) → AllSpelled n [] ts m → (n ≡ m) × (ts ≡ [])
  ended n m _ nothing = (refl, refl)

  -- an operand alone
  pub operand_spelled : (o n : ℕ) (s : List ℕ) → IsKnown names s → is_operand s ≡ true → (nat_le L.operands n || is_long L s) ≡ false → Reaches level.factor o n (s ∷ []) (suc n)
  operand_spelled o n s held t room = by_tests (is_number s) (is_largest s) (is_text s) (is_name s) (bytes_eq s (codes "true")) (bytes_eq s (codes "false")) refl refl refl refl refl refl t
    where
      one : Counts L.operands n 1 (suc n)
      one = counts_one L.operands n (leb-false L.operands n (first_passes (nat_le L.operands n) (is_long L s) room))

      long : is_long L s ≡ false
      long = second_passes (nat_le L.operands n) (is_long L s) room

      as_text : is_text s ≡ true → Reaches level.factor o n (s ∷ []) (suc n)
      as_text e =
          let parts = text_quoted s e in
          let x = held.text e in
          let inside : list_all is_printable (names.text x.0) ≡ true = subst (λ (y : List ℕ). list_all is_printable y ≡ true) (sym x.1) parts.1 in
          let short : length (inner s) ≤ L.text = ltb-false L.text (length (inner s)) ((λ i. sym e i && nat_lt L.text (length (inner s))) ∙ first_passes (is_text s && nat_lt L.text (length (inner s))) (is_name s && nat_lt L.name (length s)) long) in
          (term.text x.0, subst (λ (y : Pieces). Spelt L names level.factor o (term.text x.0) y) (ap (λ y. y ∷ []) (ap quoted x.1 ∙ sym parts.0)) (level.of_text (record { printable = inside; short = subst (λ (y : List ℕ). length y ≤ L.text) (sym x.1) short; first = x.2 })), one)

      as_name : is_name s ≡ true → Reaches level.factor o n (s ∷ []) (suc n)
      as_name e =
          let x = held.name e in
          let named : IsTrue (is_name (names.word x.0)) = subst (λ (y : List ℕ). IsTrue (is_name y)) (sym x.1) e in
          let short : length s ≤ L.name = ltb-false L.name (length s) ((λ i. sym e i && nat_lt L.name (length s)) ∙ second_passes (is_text s && nat_lt L.text (length (inner s))) (is_name s && nat_lt L.name (length s)) long) in
          (term.var x.0, subst (λ (y : Pieces). Spelt L names level.factor o (term.var x.0) y) (ap (λ y. y ∷ []) x.1) (level.of_name (record { name = named; short = subst (λ (y : List ℕ). length y ≤ L.name) (sym x.1) short; first = x.2 })), one)

      as_true : bytes_eq s (codes "true") ≡ true → Reaches level.factor o n (s ∷ []) (suc n)
      as_true e = (term.boolean true, subst (λ (y : Pieces). Spelt L names level.factor o (term.boolean true) y) (ap (λ y. y ∷ []) (sym (bytes_same s (codes "true") e))) level.of_true, one)

      as_false : bytes_eq s (codes "false") ≡ true → Reaches level.factor o n (s ∷ []) (suc n)
      as_false e = (term.boolean false, subst (λ (y : Pieces). Spelt L names level.factor o (term.boolean false) y) (ap (λ y. y ∷ []) (sym (bytes_same s (codes "false") e))) level.of_false, one)

      by_tests : (n' l x m y f : Bool) → is_number s ≡ n' → is_largest s ≡ l → is_text s ≡ x → is_name s ≡ m → bytes_eq s (codes "true") ≡ y → bytes_eq s (codes "false") ≡ f
          → ((n' && not l) || (x || (m || (y || f)))) ≡ true → Reaches level.factor o n (s ∷ []) (suc n)
      by_tests true false x m y f en el ex em ey ef h = (_, level.of_number en (small_number s en el), one)
      by_tests true true true m y f en el ex em ey ef h = as_text ex
      by_tests false l true m y f en el ex em ey ef h = as_text ex
      by_tests true true false true y f en el ex em ey ef h = as_name em
      by_tests false l false true y f en el ex em ey ef h = as_name em
      by_tests true true false false true f en el ex em ey ef h = as_true ey
      by_tests false l false false true f en el ex em ey ef h = as_true ey
      by_tests true true false false false true en el ex em ey ef h = as_false ef
      by_tests false l false false false true en el ex em ey ef h = as_false ef
      by_tests true true false false false false en el ex em ey ef h = let none : ⊥ = cc in absurd none
      by_tests false l false false false false en el ex em ey ef h = let none : ⊥ = cc in absurd none
