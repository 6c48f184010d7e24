-- The canonical text of statements: each on a line, blocks two spaces further in.
use Rattle.std.specs.Prelude.{ℕ, ◌+◌, List, [], ◌++◌, replicate, codes}
use Rattle.sj_lang.specs.Term.{Term}
use Rattle.sj_lang.specs.Code.{Code, StmtAt, DeedAt, Branches, no_stmt, stmt_then, at, send, delegate, take_value, take_end, outbranch, inbranch, outwhile, inwhile, relay, if_else, let_be, close, request, accept, no_branch, branch}
use Rattle.sj_grammar.specs.Tables.{Spelling}
use Rattle.sj_grammar.specs.Expressions.{whole}
use Rattle.sj_grammar.specs.Statements.{scalar_piece}
use Rattle.sj_party.specs.CanonicalExpression.{expression_text}

-- so many spaces
abbrev pub spaces : ℕ → List ℕ
spaces n = replicate n 32

abbrev pub newline : List ℕ
newline = codes "\n"

-- what stands further in, between a brace that ends a line and one that begins the last
unfoldable pub in_block : ℕ → List ℕ → List ℕ
in_block n inner = codes " {\n" ++ (inner ++ (spaces n ++ codes "}"))

module _ (names : Spelling) where
  -- a name after what stands before it
  unfoldable pub named_text : List ℕ → ℕ → List ℕ
  named_text lead x = lead ++ names.word x

  -- two names
  unfoldable pub pair_text : List ℕ → ℕ → ℕ → List ℕ
  pair_text lead x y = named_text lead x ++ named_text (codes " ") y

  -- an expression
  unfoldable pub valued_text : List ℕ → Term → List ℕ
  valued_text lead t = lead ++ expression_text names whole t

  -- a name, and after a mark an expression
  unfoldable pub given_text : List ℕ → ℕ → List ℕ → Term → List ℕ
  given_text lead x mark t = named_text lead x ++ valued_text mark t

  -- an arm, with what stands in its block
  abbrev pub arm_text : ℕ → ℕ → List ℕ → List ℕ
  arm_text n l inner = spaces n ++ (names.word l ++ ((codes ":" ++ in_block n inner) ++ newline))

  abbrev mutual
    -- statements that stand so many spaces in
    pub code_text : ℕ → Code → List ℕ
    code_text n no_stmt = []
    code_text n (stmt_then s rest) = stmt_text n s ++ code_text n rest

    pub stmt_text : ℕ → StmtAt → List ℕ
    stmt_text n (at line a) = spaces n ++ (deed_text n a ++ newline)

    -- what a statement is, up to the end of its last line
    pub deed_text : ℕ → DeedAt → List ℕ
    deed_text n (send x t) = given_text (codes "send ") x (codes " ") t ++ codes ";"
    deed_text n (delegate x y) = pair_text (codes "delegate ") x y ++ codes ";"
    deed_text n (take_value x v k) = pair_text (codes "recv ") x v ++ (codes " " ++ (scalar_piece k ++ codes ";"))
    deed_text n (take_end x y p) = pair_text (codes "recv ") x y ++ (named_text (codes " session ") p ++ codes ";")
    deed_text n (outbranch x l) = pair_text (codes "outbranch ") x l ++ codes ";"
    deed_text n (inbranch x arms) = named_text (codes "inbranch ") x ++ in_block n (arms_text (n + 2) arms)
    deed_text n (outwhile x t body) = given_text (codes "outwhile ") x (codes " ") t ++ in_block n (code_text (n + 2) body)
    deed_text n (inwhile x body) = named_text (codes "inwhile ") x ++ in_block n (code_text (n + 2) body)
    deed_text n (relay x y body) = pair_text (codes "relay ") x y ++ in_block n (code_text (n + 2) body)
    deed_text n (if_else t first second) = valued_text (codes "if ") t ++ (in_block n (code_text (n + 2) first) ++ (codes " else" ++ in_block n (code_text (n + 2) second)))
    deed_text n (let_be v t) = given_text (codes "let ") v (codes " = ") t ++ codes ";"
    deed_text n (close x) = named_text (codes "close ") x ++ codes ";"
    deed_text n (request x p b) = pair_text (codes "request ") x p ++ (named_text (codes " to ") b ++ codes ";")
    deed_text n (accept x p b) = pair_text (codes "accept ") x p ++ (named_text (codes " from ") b ++ codes ";")

    -- arms that stand so many spaces in, each on lines of its own
    pub arms_text : ℕ → Branches → List ℕ
    arms_text n no_branch = []
    arms_text n (branch l code arms) = arm_text n l (code_text (n + 2) code) ++ arms_text n arms

  -- a block, with its statements two spaces further in
  abbrev pub block_text : ℕ → Code → List ℕ
  block_text n code = in_block n (code_text (n + 2) code)
