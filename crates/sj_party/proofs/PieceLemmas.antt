-- Parts that were read, as pieces on their lines, and the parts of a statement.
use Rattle.std.proofs.Common.{◌≡◌, ℕ, List, [], ◌∷◌, ◌++◌, refl, ap, sym, subst, ◌∙◌, append-nil}
use Rattle.std.specs.Prelude.{codes}
use Rattle.sj_lang.specs.Term.{Term}
use Rattle.sj_lang.specs.Code.{Code, DeedAt, Branches, no_branch, branch, at, send, delegate, take_value, take_end, outbranch, inbranch, outwhile, inwhile, relay, if_else, let_be, close, request, accept}
use Rattle.sj_lang.specs.declared.party.Scalar.{Scalar}
use Rattle.sj_lang.specs.Limits.{limits}
use Rattle.sj_grammar.specs.Tables.{Spelling, IsNamed, entry_of}
use Rattle.sj_grammar.specs.Positions.{Pieces, Piece, At, Takes, TakesPiece, spellings, plain, first_on, all_plain}
use Rattle.sj_grammar.specs.Expressions.{IsExpression}
use Rattle.sj_grammar.specs.Statements.{scalar_piece, called, IsStatement, IsBlock, AreArms}
use Rattle.sj_grammar.specs.Statements as grammar
use Rattle.sj_proto.specs.Parsed.{Gives}
use Rattle.sj_proto.proofs.LineLemmas.{off_lines, on_lines, OnLines-append}
use Rattle.sj_expr.proofs.ReadLemmas.{agrees_back}
use Rattle.sj_party.specs.Read.{ReadsOnLines}
use Rattle.sj_party.specs.Parts.{Part, a_name, an_expression, a_piece, a_value, an_end, a_block, some_arms, parts_of, first_word, AreSome, ReadsPart, ReadsParts}

-- one after another
pub lines_on : (a m b : At) (F G H : Spelling → List Piece → Type 0) → ((names : Spelling) (ps qs : List Piece) → F names ps → G names qs → H names (ps ++ qs)) → ReadsOnLines a m F → ReadsOnLines m b G → ReadsOnLines a b H
lines_on a m b F G H f r q = record {
  pieces = r.pieces ++ q.pieces;
  begins = OnLines-append r.pieces q.pieces a m b r.begins q.begins;
  are = λ names g. f names r.pieces q.pieces (r.are names (agrees_back names (spellings q.pieces) m b (off_lines q.pieces m b q.begins) g)) (q.are names g);
}

pub lines_as : (a b : At) (F G : Spelling → List Piece → Type 0) → ((names : Spelling) (ps : List Piece) → F names ps → G names ps) → ReadsOnLines a b F → ReadsOnLines a b G
lines_as a b F G f r = record { pieces = r.pieces; begins = r.begins; are = λ names g. f names r.pieces (r.are names g) }

-- one token
pub line_one : (a b : At) (p : Piece) (F : Spelling → List Piece → Type 0) → TakesPiece a p b → ((names : Spelling) → F names (p ∷ [])) → ReadsOnLines a b F
line_one a b p F t f = record { pieces = p ∷ []; begins = (b, t, refl); are = λ names g. f names }

module _ (names : Spelling) where
  -- the pieces of a part
  pub data PartPieces : Part → List Piece → Type 0 where
    named : {x : ℕ} → IsNamed limits names.word x → PartPieces (a_name x) (called limits names x ∷ [])
    expressed : {t : Term} {e : Pieces} → IsExpression limits names t e → PartPieces (an_expression t) (all_plain e)
    one_piece : {s : List ℕ} → PartPieces (a_piece s) (plain s ∷ [])
    valued : {k : Scalar} → PartPieces (a_value k) (plain (scalar_piece k) ∷ [])
    ended : {p : ℕ} → IsNamed limits names.word p → PartPieces (an_end p) (plain (codes "session") ∷ called limits names p ∷ [])
    blocked : {o : ℕ} {c : Code} {a : List Piece} → IsBlock limits names o c a → PartPieces (a_block o c) a
    armed : {o : ℕ} {arms : Branches} {a : List Piece} → AreSome arms → AreArms limits names o arms a → PartPieces (some_arms o arms) a

  pub data ArePieces : List Part → List Piece → Type 0 where
    nothing : ArePieces [] []
    more : {p : Part} {ps : List Part} {a b : List Piece} → PartPieces p a → ArePieces ps b → ArePieces (p ∷ ps) (a ++ b)

  -- the parts of a statement are the statement
  pub statement_is : (o l : ℕ) (deed : DeedAt) (a : List Piece) → ArePieces (parts_of o deed) a → IsStatement limits names o (at l deed) (first_on l (first_word deed) ∷ a)
  statement_is o l (send x t) a (more (named is) (more (expressed h) (more one_piece nothing))) = grammar.of_send is h
  statement_is o l (delegate x y) a (more (named is) (more (named also) (more one_piece nothing))) = grammar.of_delegate is also
  statement_is o l (take_value x n k) a (more (named is) (more (named also) (more valued (more one_piece nothing)))) = grammar.of_take is also
  statement_is o l (take_end x y p) a (more (named is) (more (named also) (more (ended third) (more one_piece nothing)))) = grammar.of_take_end is also third
  statement_is o l (outbranch x m) a (more (named is) (more (named also) (more one_piece nothing))) = grammar.of_outbranch is also
  statement_is o l (inbranch x no_branch) a (more (named is) (more one_piece (more (armed some arms) (more one_piece nothing)))) = absurd some
  statement_is o l (inbranch x (branch m code rest)) a (more (named is) (more one_piece (more (armed some arms) (more one_piece nothing)))) = grammar.of_inbranch is arms
  statement_is o l (outwhile x t code) a (more (named is) (more (expressed {e} h) (more (blocked {a = c} body) nothing))) =
      subst (λ (ps : List Piece). IsStatement limits names o (at l (outwhile x t code)) (first_on l (codes "outwhile") ∷ called limits names x ∷ (all_plain e ++ ps))) (sym (append-nil c)) (grammar.of_outwhile is h body)
  statement_is o l (inwhile x code) a (more (named is) (more (blocked {a = c} body) nothing)) =
      subst (λ (ps : List Piece). IsStatement limits names o (at l (inwhile x code)) (first_on l (codes "inwhile") ∷ called limits names x ∷ ps)) (sym (append-nil c)) (grammar.of_inwhile is body)
  statement_is o l (relay x y code) a (more (named is) (more (named also) (more (blocked {a = c} body) nothing))) =
      subst (λ (ps : List Piece). IsStatement limits names o (at l (relay x y code)) (first_on l (codes "relay") ∷ called limits names x ∷ called limits names y ∷ ps)) (sym (append-nil c)) (grammar.of_relay is also body)
  statement_is o l (if_else t first second) a (more (expressed {e} h) (more (blocked {a = c} body) (more one_piece (more (blocked {a = d} other) nothing)))) =
      subst (λ (ps : List Piece). IsStatement limits names o (at l (if_else t first second)) (first_on l (codes "if") ∷ (all_plain e ++ (c ++ plain (codes "else") ∷ ps)))) (sym (append-nil d)) (grammar.of_if h body other)
  statement_is o l (let_be n t) a (more (named is) (more one_piece (more (expressed h) (more one_piece nothing)))) = grammar.of_let is h
  statement_is o l (close x) a (more (named is) (more one_piece nothing)) = grammar.of_close is
  statement_is o l (request x p b) a (more (named is) (more (named also) (more one_piece (more (named third) (more one_piece nothing))))) = grammar.of_request is also third
  statement_is o l (accept x p b) a (more (named is) (more (named also) (more one_piece (more (named third) (more one_piece nothing))))) = grammar.of_accept is also third

-- a name, whatever its number is spelled as
name_pieces : (a b : At) (x : ℕ) → Gives a b (λ word. word x ∷ []) (λ word. IsNamed limits word x) → ReadsOnLines a b (λ names ps. (ps ≡ called limits names x ∷ []) × IsNamed limits names.word x)
name_pieces a b x gives =
    let mine = gives (entry_of b.words) (λ k h. refl) in
    record {
      pieces = plain (entry_of b.words x) ∷ [];
      begins = on_lines (entry_of b.words x ∷ []) a b mine.0;
      are = λ names g.
          let theirs = gives names.word g.words in
          let same : entry_of b.words x ≡ names.word x = cc (sym mine.0.1.token ∙ theirs.0.1.token) in
          (ap (λ s. plain s ∷ []) same, theirs.1);
    }

pub taken_piece : (a b : At) (s : List ℕ) → Takes a s b → TakesPiece a (plain s) b
taken_piece a b s t = record { taken = t; line = tt }

part_pieces : (p : Part) (a b : At) → ReadsPart a b p → ReadsOnLines a b (λ names ps. PartPieces names p ps)
part_pieces (a_name x) a b r = lines_as a b _ _ (λ names ps h. subst (λ (qs : List Piece). PartPieces names (a_name x) qs) (sym h.0) (named h.1)) (name_pieces a b x r)
part_pieces (an_expression t) a b r = record { pieces = all_plain r.reads.pieces; begins = on_lines r.reads.pieces a b r.reads.begins; are = λ names g. expressed (r.reads.are names g) }
part_pieces (a_piece s) a b r = line_one a b (plain s) _ (taken_piece a b s r) (λ names. one_piece)
part_pieces (a_value k) a b r = line_one a b (plain (scalar_piece k)) _ (taken_piece a b (scalar_piece k) r) (λ names. valued)
part_pieces (an_end p) a b r =
    lines_on a r.0 b (λ names ps. ps ≡ plain (codes "session") ∷ []) _ _
    (λ names ps qs h i. subst (λ (xs : List Piece). PartPieces names (an_end p) xs) (sym (λ j. h j ++ i.0 j)) (ended i.1))
    (line_one a r.0 (plain (codes "session")) _ (taken_piece a r.0 (codes "session") r.1) (λ names. refl)) (name_pieces r.0 b p r.2)
part_pieces (a_block o c) a b r = lines_as a b _ _ (λ names ps h. blocked h) r
part_pieces (some_arms o arms) a b r = lines_as a b _ _ (λ names ps h. armed r.0 h) r.1

pub parts_pieces : (ps : List Part) (a b : At) → ReadsParts a b ps → ReadsOnLines a b (λ names qs. ArePieces names ps qs)
parts_pieces [] a b r = record { pieces = []; begins = r; are = λ names g. nothing }
parts_pieces (p ∷ ps) a b r = lines_on a r.0 b _ _ _ (λ names xs ys h i. more h i) (part_pieces p a r.0 r.1) (parts_pieces ps r.0 b r.2)
