-- Canonical texts of statements as pieces of statements that are equal, lines aside.
use Rattle.std.proofs.Common.{◌≡◌, ℕ, zero, suc, true, List, [], ◌∷◌, ◌++◌, refl, ap, sym, subst, ◌∙◌, append_assoc}
use Rattle.sj_lang.specs.Term.{Term}
use Rattle.sj_grammar.specs.declared.tokens.What.TheVariants.{Word}
use Rattle.sj_lang.specs.Limits.{Limits}
use Rattle.sj_grammar.specs.Names.{is_word}
use Rattle.sj_grammar.specs.Reading.{Reading}
use Rattle.sj_grammar.specs.Tables.{Spelling, IsNamed}
use Rattle.sj_grammar.specs.Positions.{Pieces, Piece, plain, first_on, all_plain, spellings}
use Rattle.sj_grammar.specs.Expressions.{IsExpression, whole}
use Rattle.sj_grammar.proofs.LexingLemmas.{read, Any, NoWordByte, word_next, name_is_word}
use Rattle.sj_proto.proofs.LineLemmas.{spellings-append, spellings-plain}
use Rattle.sj_party.specs.CanonicalExpression.{expression_text}
use Rattle.sj_party.specs.CanonicalCode.{spaces, newline}
use Rattle.sj_party.proofs.AddAlike.{AddAlike, alike_append}
use Rattle.sj_party.proofs.PrintableLemmas.{expression_pieces, printable}
use Rattle.sj_party.proofs.RespellingLemmas.{spelt_again, adds_alike}
use Rattle.sj_party.proofs.PieceTextLemmas.{AreBlank, LexesOnLines, Reaches, HasLines, joins, blanks_append, first_line, line_here}
use Rattle.sj_party.proofs.ExpressionTextLemmas.{word_lines, spaced_lines, expression_lines}

-- from here up to the rest stand the pieces of a value that is the same but for lines,
-- and adds what the given pieces add
pub record Relined {X : Type 0} (un : X → X) (Is : X → List Piece → Type 0) (x : X) (a : List Piece) (r : Reading) (rest : List ℕ) : Type 0 where
  pub value : X
  pub same : un value ≡ un x
  pub pieces : List Piece
  pub is : Is value pieces
  pub adds : AddAlike (spellings a) (spellings pieces)
  pub reaches : Reaches r pieces rest

pub adds_append : (a b c d : List Piece) → AddAlike (spellings a) (spellings c) → AddAlike (spellings b) (spellings d) → AddAlike (spellings (a ++ b)) (spellings (c ++ d))
adds_append a b c d h k =
    subst (λ (ps : Pieces). AddAlike ps (spellings (c ++ d))) (sym (spellings-append a b))
    (subst (λ (ps : Pieces). AddAlike (spellings a ++ spellings b) ps) (sym (spellings-append c d)) (alike_append (spellings a) (spellings c) (spellings b) (spellings d) h k))

pub spaces_blank : (n : ℕ) → AreBlank (spaces n)
spaces_blank zero = refl
spaces_blank (suc n) = spaces_blank n

-- where a reader stands after some pieces
abbrev pub behind : {r : Reading} {ps : List Piece} (rest : List ℕ) → Reaches r ps rest → Reading
behind rest h = read h.before (h.blanks ++ rest)

-- a text whose pieces stand on no line, and what follows
pub plain_then : (Behind : List ℕ → Type 0) (r : Reading) (ps qs : List Piece) (t rest : List ℕ) (h : Reaches r ps (t ++ rest)) → HasLines Behind t qs → Behind rest → Reaches r (ps ++ qs) rest
plain_then Behind r ps qs t rest h k free = joins r ps qs t rest h (k h.before h.blanks rest h.are free)

-- blanks after the pieces
pub blanks_then : (r : Reading) (ps : List Piece) (u rest : List ℕ) → AreBlank u → Reaches r ps (u ++ rest) → Reaches r ps rest
blanks_then r ps u rest all h = record {
  before = h.before;
  blanks = h.blanks ++ u;
  are = blanks_append h.blanks u h.are all;
  lexes = subst (λ (x : List ℕ). LexesOnLines r ps (read h.before x)) (sym (append_assoc h.blanks u rest)) h.lexes;
}

-- the keyword of a statement, after blanks and its indentation
pub keyword : (w : List ℕ) (n : ℕ) (before g rest : List ℕ) → is_word w ≡ true → AreBlank g → NoWordByte rest
    → (l : ℕ) × Reaches (read before (g ++ (spaces n ++ (w ++ rest)))) (first_on l w ∷ []) rest
keyword w n before g rest named blank free =
    let set = blanks_append g (spaces n) blank (spaces_blank n) in
    let line = line_here before (g ++ spaces n) w rest in
    (line, subst (λ (x : List ℕ). Reaches (read before x) (first_on line w ∷ []) rest) (append_assoc g (spaces n) (w ++ rest)) (first_line w Word before (g ++ spaces n) rest set (word_next w rest named free)))

-- and the rest of its head
pub headed : (Behind : List ℕ → Type 0) (w : List ℕ) (n : ℕ) (tail : List ℕ) (qs : List Piece) (before g rest : List ℕ) → is_word w ≡ true → ((more : List ℕ) → NoWordByte (tail ++ more)) → HasLines Behind tail qs → AreBlank g → Behind rest
    → (l : ℕ) × Reaches (read before (g ++ (spaces n ++ (w ++ (tail ++ rest))))) (first_on l w ∷ qs) rest
headed Behind w n tail qs before g rest named free has blank end =
    let k = keyword w n before g (tail ++ rest) named blank (free rest) in
    (k.0, plain_then Behind (read before (g ++ (spaces n ++ (w ++ (tail ++ rest))))) (first_on k.0 w ∷ []) qs tail rest k.1 has end)

-- a statement on one line
pub one_lined : (w : List ℕ) (n : ℕ) (tail : List ℕ) (qs : List Piece) (before g rest : List ℕ) → is_word w ≡ true → ((more : List ℕ) → NoWordByte (tail ++ more)) → HasLines Any tail qs → AreBlank g
    → (l : ℕ) × Reaches (read before (g ++ ((spaces n ++ ((w ++ tail) ++ newline)) ++ rest))) (first_on l w ∷ qs) rest
one_lined w n tail qs before g rest named free has blank =
    let k = headed Any w n tail qs before g (newline ++ rest) named free has blank tt in
    let text : spaces n ++ (w ++ (tail ++ (newline ++ rest))) ≡ (spaces n ++ ((w ++ tail) ++ newline)) ++ rest =
    sym (append_assoc (spaces n) ((w ++ tail) ++ newline) rest ∙ ap (λ x. spaces n ++ x) (append_assoc (w ++ tail) newline rest ∙ append_assoc w tail (newline ++ rest))) in
    (k.0, subst (λ (x : List ℕ). Reaches (read before (g ++ x)) (first_on k.0 w ∷ qs) rest) text (blanks_then (read before (g ++ (spaces n ++ (w ++ (tail ++ (newline ++ rest)))))) (first_on k.0 w ∷ qs) newline rest refl k.1))

module _ (L : Limits) (names : Spelling) where
  -- an expression within the limits again
  pub expression_again : (t : Term) (ps : Pieces) → IsExpression L names t ps → IsExpression L names t (expression_pieces names whole t)
  expression_again t ps h = record { spelt = spelt_again L names whole 0 t (printable L names h.spelt); few = h.few }

  pub expression_has : (t : Term) (ps : Pieces) → IsExpression L names t ps → HasLines NoWordByte (expression_text names whole t) (all_plain (expression_pieces names whole t))
  expression_has t ps h = expression_lines L names whole 0 t (printable L names h.spelt)

  pub expression_adds : (t : Term) (ps : Pieces) → IsExpression L names t ps → AddAlike (spellings (all_plain ps)) (spellings (all_plain (expression_pieces names whole t)))
  expression_adds t ps h =
      subst (λ (qs : Pieces). AddAlike qs (spellings (all_plain (expression_pieces names whole t)))) (sym (spellings-plain ps))
      (subst (λ (qs : Pieces). AddAlike ps qs) (sym (spellings-plain (expression_pieces names whole t))) (adds_alike L names h.spelt))

  -- a name after a space
  pub name_has : (n : ℕ) → IsNamed L names.word n → HasLines NoWordByte (32 ∷ names.word n) (plain (names.word n) ∷ [])
  name_has n h = spaced_lines NoWordByte (names.word n) (plain (names.word n) ∷ []) (word_lines (names.word n) (name_is_word (names.word n) h.name))
