-- Statements on one line and with blocks, from what their heads and blocks are read as.
use Rattle.std.proofs.Common.{◌≡◌, ℕ, true, List, [], ◌∷◌, ◌++◌, refl, ap, sym, subst, ◌∙◌, append_assoc}
use Rattle.std.specs.Prelude.{codes}
use Rattle.sj_lang.specs.Code.{StmtAt}
use Rattle.sj_grammar.specs.declared.tokens.What.TheVariants.{Symbol}
use Rattle.sj_lang.specs.Limits.{Limits}
use Rattle.sj_grammar.specs.Names.{is_word}
use Rattle.sj_grammar.specs.Reading.{Reading}
use Rattle.sj_grammar.specs.Tables.{Spelling}
use Rattle.sj_grammar.specs.Positions.{Piece, plain, first_on, spellings}
use Rattle.sj_grammar.specs.Statements.{braced, IsStatement}
use Rattle.sj_grammar.proofs.LexingLemmas.{read, Any, NoWordByte}
use Rattle.sj_party.specs.CanonicalCode.{spaces, newline, in_block}
use Rattle.sj_party.specs.Unlined.{unlined_stmt}
use Rattle.sj_party.proofs.AddAlike.{AddAlike, alike_same, alike_cons}
use Rattle.sj_party.proofs.PieceTextLemmas.{AreBlank, Reaches, HasLines, joins, lines_append, blank_lines, one_line}
use Rattle.sj_party.proofs.ExpressionTextLemmas.{word_lines}
use Rattle.sj_party.proofs.LineLemmas.{Relined, adds_append, spaces_blank, plain_then, blanks_then, headed, one_lined}
use Rattle.sj_party.proofs.HeadLemmas.{open_lines, close_lines}

-- a brace, what stands in the block, and what follows
inner_reaches : (n : ℕ) (inner before g rest : List ℕ) → AreBlank g → Reaches (read before (g ++ (in_block n inner ++ rest))) (plain (codes "{") ∷ []) (inner ++ ((spaces n ++ codes "}") ++ rest))
unfolding in_block
inner_reaches n inner before g rest blank =
    let shut = spaces n ++ codes "}" in
    subst (λ (x : List ℕ). Reaches (read before (g ++ (codes " {\n" ++ x))) (plain (codes "{") ∷ []) (inner ++ (shut ++ rest))) (sym (append_assoc inner shut rest)) (open_lines before g (inner ++ (shut ++ rest)) blank tt)

pub block_free : (n : ℕ) (inner more : List ℕ) → NoWordByte (in_block n inner ++ more)
unfolding in_block
block_free n inner more = refl

-- a block from what stands between its braces
pub in_braces : {X : Type 0} (un : X → X) (Is Braced : X → List Piece → Type 0) (x : X) (a : List Piece) (n : ℕ) (inner before g rest : List ℕ) → AreBlank g → ((v : X) (b : List Piece) → Is v b → Braced v (braced b))
    → ((k h : List ℕ) → AreBlank h → Relined un Is x a (read k (h ++ (inner ++ ((spaces n ++ codes "}") ++ rest)))) ((spaces n ++ codes "}") ++ rest)) → Relined un Braced x (braced a) (read before (g ++ (in_block n inner ++ rest))) rest
in_braces un Is Braced x a n inner before g rest blank wrap within =
    let shut = spaces n ++ codes "}" in
    let r = read before (g ++ (in_block n inner ++ rest)) in
    let opened = inner_reaches n inner before g rest blank in
    let mid = within opened.before opened.blanks opened.are in
    let both = joins r (plain (codes "{") ∷ []) mid.pieces inner (shut ++ rest) opened mid.reaches in
    record {
      value = mid.value;
      same = mid.same;
      pieces = braced mid.pieces;
      is = wrap mid.value mid.pieces mid.is;
      adds = alike_cons (codes "{") (spellings (a ++ plain (codes "}") ∷ [])) (spellings (mid.pieces ++ plain (codes "}") ∷ [])) (adds_append a (plain (codes "}") ∷ []) mid.pieces (plain (codes "}") ∷ []) mid.adds (alike_same (codes "}" ∷ [])));
      reaches = plain_then Any r (plain (codes "{") ∷ mid.pieces) (plain (codes "}") ∷ []) shut rest both (close_lines n) tt;
    }

-- the label of an arm
arm_assoc : (n : ℕ) (w x : List ℕ) → ((spaces n ++ w) ++ codes ":") ++ x ≡ spaces n ++ (w ++ (codes ":" ++ x))
arm_assoc n w x = append_assoc (spaces n ++ w) (codes ":") x ∙ append_assoc (spaces n) w (codes ":" ++ x)

pub label_reaches : (n : ℕ) (w before g rest : List ℕ) → is_word w ≡ true → AreBlank g → Reaches (read before (g ++ (spaces n ++ (w ++ (codes ":" ++ rest))))) (plain w ∷ plain (codes ":") ∷ []) rest
label_reaches n w before g rest named blank =
    let set = lines_append Any NoWordByte (spaces n) w [] (plain w ∷ []) (blank_lines Any (spaces n) (spaces_blank n)) (word_lines w named) (λ more free. tt) in
    let both = lines_append NoWordByte Any (spaces n ++ w) (codes ":") (plain w ∷ []) (plain (codes ":") ∷ []) set (one_line Any (codes ":") (codes ":") Symbol (λ more free. refl)) (λ more free. refl) in
    subst (λ (x : List ℕ). Reaches (read before (g ++ x)) (plain w ∷ plain (codes ":") ∷ []) rest) (arm_assoc n w rest) (both before g rest blank tt)

pub arm_parts : (n : ℕ) (w block behind rest : List ℕ) → ((spaces n ++ (w ++ ((codes ":" ++ block) ++ newline))) ++ behind) ++ rest ≡ spaces n ++ (w ++ (codes ":" ++ (block ++ (newline ++ (behind ++ rest)))))
arm_parts n w block behind rest =
    append_assoc (spaces n ++ (w ++ ((codes ":" ++ block) ++ newline))) behind rest ∙ append_assoc (spaces n) (w ++ ((codes ":" ++ block) ++ newline)) (behind ++ rest)
    ∙ ap (λ x. spaces n ++ x) (append_assoc w ((codes ":" ++ block) ++ newline) (behind ++ rest) ∙ ap (λ x. w ++ (codes ":" ++ x)) (append_assoc block newline (behind ++ rest)))

statement_parts : (n : ℕ) (w tail block rest : List ℕ) → (spaces n ++ (((w ++ tail) ++ block) ++ newline)) ++ rest ≡ spaces n ++ (w ++ (tail ++ (block ++ (newline ++ rest))))
statement_parts n w tail block rest =
    append_assoc (spaces n) (((w ++ tail) ++ block) ++ newline) rest
    ∙ ap (λ x. spaces n ++ x) (append_assoc ((w ++ tail) ++ block) newline rest ∙ append_assoc (w ++ tail) block (newline ++ rest) ∙ append_assoc w tail (block ++ (newline ++ rest)))

module _ (L : Limits) (names : Spelling) where
  abbrev pub StmtAgain : ℕ → StmtAt → List Piece → Reading → List ℕ → Type 0
  StmtAgain o s a r rest = Relined unlined_stmt (IsStatement L names o) s a r rest

  -- a statement on one line, whatever its line
  pub on_one_line : (o n : ℕ) (w tail text : List ℕ) (qs a : List Piece) (s : StmtAt) (value : ℕ → StmtAt) (before g rest : List ℕ) → is_word w ≡ true → ((more : List ℕ) → NoWordByte (tail ++ more)) → HasLines Any tail qs → AreBlank g
      → text ≡ w ++ tail → ((l : ℕ) → unlined_stmt (value l) ≡ unlined_stmt s) → ((l : ℕ) → IsStatement L names o (value l) (first_on l w ∷ qs)) → AddAlike (spellings a) (w ∷ spellings qs)
      → StmtAgain o s a (read before (g ++ ((spaces n ++ (text ++ newline)) ++ rest))) rest
  on_one_line o n w tail text qs a s value before g rest named free has blank parts same is adds =
      let k = one_lined w n tail qs before g rest named free has blank in
      record {
        value = value k.0;
        same = same k.0;
        pieces = first_on k.0 w ∷ qs;
        is = is k.0;
        adds = adds;
        reaches = subst (λ (x : List ℕ). Reaches (read before (g ++ ((spaces n ++ (x ++ newline)) ++ rest))) (first_on k.0 w ∷ qs) rest) (sym parts) k.1;
      }

  -- a statement with a block, or two
  pub with_block : {X : Type 0} (un : X → X) (Braced : X → List Piece → Type 0) (x : X) (b : List Piece) (o n : ℕ) (w head tail block : List ℕ) (qs a : List Piece) (s : StmtAt) (value : ℕ → X → StmtAt) (before g rest : List ℕ)
      → is_word w ≡ true → ((more : List ℕ) → NoWordByte (tail ++ more)) → HasLines NoWordByte tail qs → AreBlank g → head ≡ w ++ tail → ((more : List ℕ) → NoWordByte (block ++ more))
      → ((k h : List ℕ) → AreBlank h → Relined un Braced x b (read k (h ++ (block ++ (newline ++ rest)))) (newline ++ rest))
      → ((l : ℕ) (v : X) → un v ≡ un x → unlined_stmt (value l v) ≡ unlined_stmt s)
      → ((l : ℕ) (v : X) (c : List Piece) → un v ≡ un x → Braced v c → IsStatement L names o (value l v) (first_on l w ∷ (qs ++ c)))
      → ((c : List Piece) → AddAlike (spellings b) (spellings c) → AddAlike (spellings a) (w ∷ spellings (qs ++ c)))
      → StmtAgain o s a (read before (g ++ ((spaces n ++ ((head ++ block) ++ newline)) ++ rest))) rest
  with_block un Braced x b o n w head tail block qs a s value before g rest named free has blank parts open_free block_again same is adds =
      let begun = headed NoWordByte w n tail qs before g (block ++ (newline ++ rest)) named free has blank (open_free (newline ++ rest)) in
      let r = read before (g ++ (spaces n ++ (w ++ (tail ++ (block ++ (newline ++ rest)))))) in
      let inner = block_again begun.1.before begun.1.blanks begun.1.are in
      let both = joins r (first_on begun.0 w ∷ qs) inner.pieces block (newline ++ rest) begun.1 inner.reaches in
      let lined = blanks_then r (first_on begun.0 w ∷ (qs ++ inner.pieces)) newline rest refl both in
      let text = ap (λ t. (spaces n ++ ((t ++ block) ++ newline)) ++ rest) parts ∙ statement_parts n w tail block rest in
      record {
        value = value begun.0 inner.value;
        same = same begun.0 inner.value inner.same;
        pieces = first_on begun.0 w ∷ (qs ++ inner.pieces);
        is = is begun.0 inner.value inner.pieces inner.same inner.is;
        adds = adds inner.pieces inner.adds;
        reaches = subst (λ (t : List ℕ). Reaches (read before (g ++ t)) (first_on begun.0 w ∷ (qs ++ inner.pieces)) rest) (sym text) lined;
      }
