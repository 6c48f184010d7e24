-- Statements, blocks and arms of the parts that were read.
use Rattle.std.proofs.Common.{◌≡◌, ℕ, suc, ◌<◌, List, [], ◌∷◌, ◌++◌, refl, ap, sym, subst, append-nil, append_assoc}
use Rattle.std.specs.Prelude.{codes, map}
use Rattle.sj_lang.specs.Code.{Code, StmtAt, DeedAt, no_stmt, no_branch, branch, at}
use Rattle.sj_lang.specs.CodeView.{in_order, branches_of, code_of, stmt_of, arm_of}
use Rattle.std.proofs.lemmas.List.{map-append}
use Rattle.sj_lang.specs.declared.party.Stmt.{Stmt}
use Rattle.sj_lang.specs.declared.party.StmtArm.{StmtArm}
use Rattle.sj_lang.specs.Limits.{limits}
use Rattle.sj_grammar.specs.Tables.{Spelling}
use Rattle.sj_grammar.specs.Positions.{Piece, At, Takes, TakesPiece, plain, first_on}
use Rattle.sj_grammar.specs.Statements.{called, IsStatement, IsCode, IsBlock, AreArms}
use Rattle.sj_grammar.specs.Statements as grammar
use Rattle.sj_party.specs.Read.{ReadsOnLines, ReadsCode}
use Rattle.sj_party.specs.Parts.{a_name, a_piece, a_block, parts_of, first_word, AreSome, ReadsParts, ReadsDeed}
use Rattle.sj_party.proofs.PieceLemmas.{lines_on, lines_as, line_one, taken_piece, ArePieces, named, one_piece, blocked, nothing, more, statement_is, parts_pieces}

module _ (names : Spelling) where
  -- one statement more, and one arm more
  pub code_push : (o : ℕ) (xs : List StmtAt) (s : StmtAt) (a b : List Piece) → IsCode limits names o (in_order xs) a → IsStatement limits names o s b → IsCode limits names o (in_order (xs ++ s ∷ [])) (a ++ b)
  code_push o [] s a b grammar.none i = subst (λ (ps : List Piece). IsCode limits names o (in_order (s ∷ [])) ps) (append-nil b) (grammar.one_more i grammar.none)
  code_push o (x ∷ xs) s a b (grammar.one_more {a = c} {b = d} j rest) i =
      subst (λ (ps : List Piece). IsCode limits names o (in_order (x ∷ (xs ++ s ∷ []))) ps) (sym (append_assoc c d b)) (grammar.one_more j (code_push o xs s d b rest i))

  pub arms_push : (o : ℕ) (xs : List (ℕ × Code)) (x : ℕ × Code) (a b : List Piece) → AreArms limits names o (branches_of xs) a → AreArms limits names o (branch x.0 x.1 no_branch) b → AreArms limits names o (branches_of (xs ++ x ∷ [])) (a ++ b)
  arms_push o [] x a b grammar.no_arm i = i
  arms_push o (y ∷ xs) x a b (grammar.one_arm {m} {a = c} {b = d} is code rest) i =
      subst (λ (ps : List Piece). AreArms limits names o (branches_of (y ∷ (xs ++ x ∷ []))) (called limits names m ∷ plain (codes ":") ∷ ps)) (sym (append_assoc c d b)) (grammar.one_arm is code (arms_push o xs x d b rest i))

-- an arm of its parts
pub arm_read : (o m : ℕ) (c : Code) (a b : At) → ReadsParts a b (a_name m ∷ a_piece (codes ":") ∷ a_block o c ∷ []) → ReadsOnLines a b (λ names ps. AreArms limits names o (branch m c no_branch) ps)
arm_read o m c a b r = lines_as a b _ _ (λ names ps h. arm_is names ps h) (parts_pieces (a_name m ∷ a_piece (codes ":") ∷ a_block o c ∷ []) a b r)
  where
    arm_is : (names : Spelling) (ps : List Piece) → ArePieces names (a_name m ∷ a_piece (codes ":") ∷ a_block o c ∷ []) ps → AreArms limits names o (branch m c no_branch) ps
    arm_is names ps (more (named is) (more one_piece (more (blocked body) nothing))) = grammar.one_arm is body grammar.no_arm

-- a statement of its first word and its parts
pub statement_read : (o l : ℕ) (deed : DeedAt) (word : List ℕ) (a m b : At) → TakesPiece a (first_on l word) m → ReadsDeed word o m b deed → ReadsOnLines a b (λ names ps. IsStatement limits names o (at l deed) ps)
statement_read o l deed word a m b t r =
    lines_on a m b (λ names ps. ps ≡ first_on l (first_word deed) ∷ []) _ _
    (λ names ps qs h i. subst (λ (xs : List Piece). IsStatement limits names o (at l deed) (xs ++ qs)) (sym h) (statement_is names o l deed qs i))
    (line_one a m (first_on l word) _ t (λ names. ap (λ s. first_on l s ∷ []) (sym r.first))) (parts_pieces (parts_of o deed) m b r.parts)

-- statements and arms so far, and one more
pub code_more : (o : ℕ) (xs : List Stmt) (x : Stmt) (a m b : At) → ReadsCode o a m (code_of xs) → ReadsOnLines m b (λ names ps. IsStatement limits names o (stmt_of x) ps) → ReadsCode o a b (code_of (xs ++ x ∷ []))
code_more o xs x a m b r q =
    subst (λ (ss : List StmtAt). ReadsCode o a b (in_order ss)) (sym (map-append stmt_of xs (x ∷ [])))
    (lines_on a m b _ _ _ (λ names ps qs h i. code_push names o (map stmt_of xs) (stmt_of x) ps qs h i) r q)

pub arms_more : (o : ℕ) (xs : List StmtArm) (x : StmtArm) (a m b : At) → ReadsOnLines a m (λ names ps. AreArms limits names o (branches_of (map arm_of xs)) ps) → ReadsOnLines m b (λ names ps. AreArms limits names o (branches_of (arm_of x ∷ [])) ps)
    → ReadsOnLines a b (λ names ps. AreArms limits names o (branches_of (map arm_of (xs ++ x ∷ []))) ps)
arms_more o xs x a m b r q =
    subst (λ (ys : List (ℕ × Code)). ReadsOnLines a b (λ names ps. AreArms limits names o (branches_of ys) ps)) (sym (map-append arm_of xs (x ∷ [])))
    (lines_on a m b _ _ _ (λ names ps qs h i. arms_push names o (map arm_of xs) (arm_of x) ps qs h i) r q)

pub some_more : (xs : List StmtArm) (x : StmtArm) → AreSome (branches_of (map arm_of (xs ++ x ∷ [])))
some_more [] x = tt
some_more (y ∷ xs) x = tt

pub no_code : (o : ℕ) (a : At) → ReadsCode o a a no_stmt
no_code o a = record { pieces = []; begins = refl; are = λ names g. grammar.none }

-- a block of its braces and its statements
pub block_read : (o k : ℕ) (c : Code) (a m u b : At) → k ≡ suc o → o < 32 → Takes a (codes "{") m → ReadsCode k m u c → Takes u (codes "}") b → ReadsOnLines a b (λ names ps. IsBlock limits names o c ps)
block_read o k c a m u b deeper deep brace r last =
    lines_on a m b (λ names ps. ps ≡ plain (codes "{") ∷ []) (λ names ps. (qs : List Piece) × IsCode limits names (suc o) c qs × (ps ≡ qs ++ plain (codes "}") ∷ [])) _
    (λ names ps qs h i. subst (λ (xs : List Piece). IsBlock limits names o c xs) (sym (λ j. h j ++ i.2 j)) (grammar.of_code deep i.1))
    (line_one a m (plain (codes "{")) _ (taken_piece a m (codes "{") brace) (λ names. refl))
    (lines_on m u b _ (λ names ps. ps ≡ plain (codes "}") ∷ []) _ (λ names ps qs h i. (ps, subst (λ (j : ℕ). IsCode limits names j c ps) deeper h, ap (λ xs. ps ++ xs) i)) r
    (line_one u b (plain (codes "}")) _ (taken_piece u b (codes "}") last) (λ names. refl)))
