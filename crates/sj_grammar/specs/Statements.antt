-- The grammar of statements and blocks.
use Rattle.std.specs.Prelude.{ℕ, suc, ◌<◌, List, [], ◌∷◌, ◌++◌, codes}
use Rattle.sj_lang.specs.declared.party.Scalar.{Scalar}
use Rattle.sj_lang.specs.declared.party.Scalar.TheVariants as scalars
use Rattle.sj_lang.specs.Term.{Term}
use Rattle.sj_lang.specs.Code.{Code, StmtAt, Branches, no_stmt, stmt_then, at, send, delegate, take_value, take_end, outbranch, inbranch, outwhile, inwhile, relay, if_else, let_be, close, request, accept, no_branch, branch}
use Rattle.sj_lang.specs.Limits.{Limits}
use Rattle.sj_grammar.specs.Tables.{Spelling, IsNamed}
use Rattle.sj_grammar.specs.Positions.{Pieces, Piece, plain, first_on, all_plain}
use Rattle.sj_grammar.specs.Expressions.{IsExpression}

abbrev pub scalar_piece : Scalar → List ℕ
scalar_piece scalars.Int = codes "int"
scalar_piece scalars.Boolean = codes "boolean"
scalar_piece scalars.Text = codes "String"

-- a block, from its brace to the one that closes it
abbrev pub braced : List Piece → List Piece
braced a = plain (codes "{") ∷ (a ++ plain (codes "}") ∷ [])

-- the pieces of statements inside so many inner braces, and of the arms of an `inbranch`
module _ (L : Limits) (names : Spelling) where
  abbrev pub called : ℕ → Piece
  called n = plain (names.word n)

  mutual
    pub data IsCode : ℕ → Code → List Piece → Type 0 where
      none : {o : ℕ} → IsCode o no_stmt []
      one_more : {o : ℕ} {s : StmtAt} {rest : Code} {a b : List Piece} → IsStatement o s a → IsCode o rest b → IsCode o (stmt_then s rest) (a ++ b)

    pub data IsStatement : ℕ → StmtAt → List Piece → Type 0 where
      of_send : {o l x : ℕ} {t : Term} {e : Pieces} → IsNamed L names.word x → IsExpression L names t e
          → IsStatement o (at l (send x t)) (first_on l (codes "send") ∷ called x ∷ (all_plain e ++ plain (codes ";") ∷ []))
      of_delegate : {o l x y : ℕ} → IsNamed L names.word x → IsNamed L names.word y
          → IsStatement o (at l (delegate x y)) (first_on l (codes "delegate") ∷ called x ∷ called y ∷ plain (codes ";") ∷ [])
      of_take : {o l x n : ℕ} {k : Scalar} → IsNamed L names.word x → IsNamed L names.word n
          → IsStatement o (at l (take_value x n k)) (first_on l (codes "recv") ∷ called x ∷ called n ∷ plain (scalar_piece k) ∷ plain (codes ";") ∷ [])
      of_take_end : {o l x y p : ℕ} → IsNamed L names.word x → IsNamed L names.word y → IsNamed L names.word p
          → IsStatement o (at l (take_end x y p)) (first_on l (codes "recv") ∷ called x ∷ called y ∷ plain (codes "session") ∷ called p ∷ plain (codes ";") ∷ [])
      of_outbranch : {o l x m : ℕ} → IsNamed L names.word x → IsNamed L names.word m
          → IsStatement o (at l (outbranch x m)) (first_on l (codes "outbranch") ∷ called x ∷ called m ∷ plain (codes ";") ∷ [])
      of_inbranch : {o l x m : ℕ} {code : Code} {arms : Branches} {a : List Piece} → IsNamed L names.word x → AreArms o (branch m code arms) a
          → IsStatement o (at l (inbranch x (branch m code arms))) (first_on l (codes "inbranch") ∷ called x ∷ braced a)
      of_outwhile : {o l x : ℕ} {t : Term} {e : Pieces} {body : Code} {a : List Piece} → IsNamed L names.word x → IsExpression L names t e → IsBlock o body a
          → IsStatement o (at l (outwhile x t body)) (first_on l (codes "outwhile") ∷ called x ∷ (all_plain e ++ a))
      of_inwhile : {o l x : ℕ} {body : Code} {a : List Piece} → IsNamed L names.word x → IsBlock o body a
          → IsStatement o (at l (inwhile x body)) (first_on l (codes "inwhile") ∷ called x ∷ a)
      of_relay : {o l x y : ℕ} {body : Code} {a : List Piece} → IsNamed L names.word x → IsNamed L names.word y → IsBlock o body a
          → IsStatement o (at l (relay x y body)) (first_on l (codes "relay") ∷ called x ∷ called y ∷ a)
      of_if : {o l : ℕ} {t : Term} {e : Pieces} {yes no : Code} {a b : List Piece} → IsExpression L names t e → IsBlock o yes a → IsBlock o no b
          → IsStatement o (at l (if_else t yes no)) (first_on l (codes "if") ∷ (all_plain e ++ (a ++ plain (codes "else") ∷ b)))
      of_let : {o l n : ℕ} {t : Term} {e : Pieces} → IsNamed L names.word n → IsExpression L names t e
          → IsStatement o (at l (let_be n t)) (first_on l (codes "let") ∷ called n ∷ plain (codes "=") ∷ (all_plain e ++ plain (codes ";") ∷ []))
      of_close : {o l x : ℕ} → IsNamed L names.word x
          → IsStatement o (at l (close x)) (first_on l (codes "close") ∷ called x ∷ plain (codes ";") ∷ [])
      of_request : {o l x p b : ℕ} → IsNamed L names.word x → IsNamed L names.word p → IsNamed L names.word b
          → IsStatement o (at l (request x p b)) (first_on l (codes "request") ∷ called x ∷ called p ∷ plain (codes "to") ∷ called b ∷ plain (codes ";") ∷ [])
      of_accept : {o l x p b : ℕ} → IsNamed L names.word x → IsNamed L names.word p → IsNamed L names.word b
          → IsStatement o (at l (accept x p b)) (first_on l (codes "accept") ∷ called x ∷ called p ∷ plain (codes "from") ∷ called b ∷ plain (codes ";") ∷ [])

    pub data IsBlock : ℕ → Code → List Piece → Type 0 where
      of_code : {o : ℕ} {code : Code} {a : List Piece} → o < L.nesting → IsCode (suc o) code a → IsBlock o code (braced a)

    -- the outer brace of `inbranch` isn't counted
    pub data AreArms : ℕ → Branches → List Piece → Type 0 where
      no_arm : {o : ℕ} → AreArms o no_branch []
      one_arm : {o m : ℕ} {code : Code} {arms : Branches} {a b : List Piece} → IsNamed L names.word m → IsBlock o code a → AreArms o arms b
          → AreArms o (branch m code arms) (called m ∷ plain (codes ":") ∷ (a ++ b))
