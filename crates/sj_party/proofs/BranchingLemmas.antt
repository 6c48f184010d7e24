-- Arms between their braces, and the two blocks of an `if`, as parts of statements.
use Rattle.std.proofs.Common.{◌≡◌, ℕ, ◌+◌, List, [], ◌∷◌, ◌++◌, refl, sym, subst, append_assoc}
use Rattle.std.specs.Prelude.{codes}
use Rattle.sj_lang.specs.Code.{Code, Branches, at, inbranch, no_branch, branch}
use Rattle.sj_lang.specs.Limits.{Limits}
use Rattle.sj_grammar.specs.Reading.{Reading}
use Rattle.sj_grammar.specs.Tables.{Spelling, IsNamed}
use Rattle.sj_grammar.specs.Positions.{Piece, plain, first_on, spellings}
use Rattle.sj_grammar.specs.Statements.{braced, IsStatement, IsBlock, AreArms}
use Rattle.sj_grammar.specs.Statements as grammar
use Rattle.sj_grammar.proofs.LexingLemmas.{read, NoWordByte}
use Rattle.sj_party.specs.CanonicalCode.{in_block, code_text}
use Rattle.sj_party.specs.Unlined.{unlined_code, unlined_branches}
use Rattle.sj_party.proofs.AddAlike.{AddAlike, alike_cons}
use Rattle.sj_party.proofs.PieceTextLemmas.{AreBlank, Reaches, joins}
use Rattle.sj_party.proofs.ExpressionTextLemmas.{word_lines}
use Rattle.sj_party.proofs.LineLemmas.{Relined, adds_append, plain_then}
use Rattle.sj_party.proofs.HeadLemmas.{reserved_lines}
use Rattle.sj_party.proofs.BlockLineLemmas.{block_free}

module _ (L : Limits) (names : Spelling) where
  abbrev BlockAgain : ℕ → Code → List Piece → Reading → List ℕ → Type 0
  BlockAgain o c a r rest = Relined unlined_code (IsBlock L names o) c a r rest

  -- arms in braces
  abbrev pub ArmsBlock : ℕ → Branches → List Piece → Type 0
  ArmsBlock o v d = (c : List Piece) × (d ≡ braced c) × AreArms L names o v c

  pub inbranch_is : (o k x m : ℕ) (code : Code) (arms v : Branches) (d : List Piece) → IsNamed L names.word x → unlined_branches v ≡ unlined_branches (branch m code arms) → ArmsBlock o v d
      → IsStatement L names o (at k (inbranch x v)) (first_on k (codes "inbranch") ∷ plain (names.word x) ∷ d)
  inbranch_is o k x m code arms no_branch d is e h = let none : ⊥ = cc in absurd none
  inbranch_is o k x m code arms (branch j c more) d is e h = subst (λ (ps : List Piece). IsStatement L names o (at k (inbranch x (branch j c more))) (first_on k (codes "inbranch") ∷ plain (names.word x) ∷ ps)) (sym h.1) (grammar.of_inbranch is h.2)

  -- two blocks with an `else` between
  abbrev pub Both : ℕ → Code × Code → List Piece → Type 0
  Both o p d = (a : List Piece) × (b : List Piece) × (d ≡ a ++ plain (codes "else") ∷ b) × IsBlock L names o p.0 a × IsBlock L names o p.1 b

  abbrev pub unlined_both : Code × Code → Code × Code
  unlined_both p = (unlined_code p.0, unlined_code p.1)

  abbrev pub block_of : ℕ → Code → List ℕ
  block_of n c = in_block n (code_text names (n + 2) c)

  pub if_free : (n : ℕ) (c d : Code) (more : List ℕ) → NoWordByte ((block_of n c ++ (codes " else" ++ block_of n d)) ++ more)
  unfolding in_block
  if_free n c d more = refl

  pub both_again : (o n : ℕ) (c d : Code) (a b : List Piece) → ((k h more : List ℕ) → AreBlank h → BlockAgain o c a (read k (h ++ (block_of n c ++ more))) more) → ((k h more : List ℕ) → AreBlank h → BlockAgain o d b (read k (h ++ (block_of n d ++ more))) more)
      → (k h more : List ℕ) → AreBlank h → Relined unlined_both (Both o) (c, d) (a ++ plain (codes "else") ∷ b) (read k (h ++ ((block_of n c ++ (codes " else" ++ block_of n d)) ++ more))) more
  both_again o n c d a b one two k h more blank =
      let r = read k (h ++ (block_of n c ++ (codes " else" ++ (block_of n d ++ more)))) in
      let first = one k h (codes " else" ++ (block_of n d ++ more)) blank in
      let between = plain_then NoWordByte r first.pieces (plain (codes "else") ∷ []) (codes " else") (block_of n d ++ more) first.reaches (reserved_lines (codes "else") (word_lines (codes "else") refl)) (block_free n (code_text names (n + 2) d) more) in
      let second = two between.before between.blanks more between.are in
      let pieces = (first.pieces ++ plain (codes "else") ∷ []) ++ second.pieces in
      record {
        value = (first.value, second.value);
        same = λ i. (first.same i, second.same i);
        pieces = pieces;
        is = (first.pieces, second.pieces, append_assoc first.pieces (plain (codes "else") ∷ []) second.pieces, first.is, second.is);
        adds = subst (λ (ps : List Piece). AddAlike (spellings (a ++ plain (codes "else") ∷ b)) (spellings ps)) (sym (append_assoc first.pieces (plain (codes "else") ∷ []) second.pieces))
            (adds_append a (plain (codes "else") ∷ b) first.pieces (plain (codes "else") ∷ second.pieces) first.adds (alike_cons (codes "else") (spellings b) (spellings second.pieces) second.adds));
        reaches = subst (λ (x : List ℕ). Reaches (read k (h ++ x)) pieces more) (sym (append_assoc (block_of n c) (codes " else" ++ block_of n d) more)) (joins r (first.pieces ++ plain (codes "else") ∷ []) second.pieces (block_of n d) more between second.reaches);
      }
