-- The statement that a first word and what is due after it make, on its line.
use Rattle.std.proofs.Common.{◌≡◌, ℕ, List, [], ◌∷◌, ◌++◌, Option, Some, None, refl, sym, subst, append_assoc, append-nil, inl, inr}
use Rattle.std.specs.Prelude.{codes}
use Rattle.sj_lang.specs.Code.{StmtAt, stmt_then, at, send, delegate, take_value, take_end, outbranch, inbranch, outwhile, inwhile, relay, if_else, let_be, close, request, accept, branch}
use Rattle.sj_lang.specs.Limits.{Limits}
use Rattle.sj_grammar.specs.Tables.{Spelling, IsNamed}
use Rattle.sj_grammar.specs.Positions.{Piece, plain, first_on, spellings}
use Rattle.sj_grammar.specs.Expressions.{IsExpression}
use Rattle.sj_grammar.specs.ExpressionDues.{whole}
use Rattle.sj_grammar.specs.Statements.{IsStatement}
use Rattle.sj_grammar.specs.Statements as grammar
use Rattle.sj_grammar.specs.FileDues.{Due, stmts, block, branches, awaited, name, fixed, expr, semicolon}
use Rattle.sj_party.specs.Alike.{OnOneLine, AreAlike}
use Rattle.sj_party_laws.proofs.ChainLemmas.{nothing, first, in_two}
use Rattle.sj_party_laws.proofs.FilledLemmas.{Spelled, AllSpelled, alike_append, awaited_lines, lines_of, lines_alike}

-- the line of a token
abbrev pub line_in : Option ℕ → ℕ
line_in None = 0
line_in (Some l) = l

pub on_line : (k : Option ℕ) → OnOneLine (Some (line_in k)) k
on_line None = tt
on_line (Some l) = refl

module _ (L : Limits) (names : Spelling) (o : ℕ) (p : Piece) where
  -- the token and those after it are a statement
  pub record Makes (x : List Piece) : Type 0 where
    pub step : StmtAt
    pub pieces : List Piece
    pub is : IsStatement L names o step pieces
    pub alike : AreAlike pieces (p ∷ x)

  module _ (n m : ℕ) where
    -- what is due after the word
    abbrev pub Behind : List Due → List Piece → Type 0
    Behind ds x = AllSpelled L names n ds x m

    -- by the pieces of what is due after the word
    made : (w : List ℕ) (ds : List Due) (x : List Piece) (h : Behind ds x) (t : StmtAt) → p.spelled ≡ w → IsStatement L names o t (first_on (line_in p.line) w ∷ lines_of L names n m ds x h) → Makes x
    made w ds x h t same is = record { step = t; pieces = first_on (line_in p.line) w ∷ lines_of L names n m ds x h; is = is; alike = (sym same, on_line p.line, lines_alike L names n m ds x h) }

    -- an expression within the limits
    expression : (k j : ℕ) (a : List Piece) (t : Spelled L names k (expr whole) a j) → IsExpression L names t.0 (spellings a)
    expression k j a t = record { spelt = t.1; few = t.2 }

    -- the statements, one by one
    pub send_made : (x : List Piece) → p.spelled ≡ codes "send" → Behind (name ∷ expr whole ∷ semicolon ∷ []) x → Makes x
    send_made _ same (first {k = k1} x (first {k = k2} {a} t (first s nothing))) =
        made (codes "send") (name ∷ expr whole ∷ semicolon ∷ []) _ (first {k = k1} x (first {k = k2} t (first s nothing))) (at (line_in p.line) (send x.0 t.0)) same (grammar.of_send x.1 (expression k1 k2 a t))

    pub delegate_made : (x : List Piece) → p.spelled ≡ codes "delegate" → Behind (name ∷ name ∷ semicolon ∷ []) x → Makes x
    delegate_made _ same (first {k = k1} x (first {k = k2} y (first s nothing))) =
        made (codes "delegate") (name ∷ name ∷ semicolon ∷ []) _ (first {k = k1} x (first {k = k2} y (first s nothing))) (at (line_in p.line) (delegate x.0 y.0)) same (grammar.of_delegate x.1 y.1)

    -- a value, or an end
    take_of : (x y j i : ℕ) (a : List Piece) (k : Spelled L names j awaited a i) → IsNamed L names.word x → IsNamed L names.word y
        → (t : StmtAt) × IsStatement L names o t (first_on (line_in p.line) (codes "recv") ∷ plain (names.word x) ∷ plain (names.word y) ∷ (awaited_lines L names j i a k ++ plain (codes ";") ∷ []))
    take_of x y j i a (inl k) is also = (at (line_in p.line) (take_value x y k.0), grammar.of_take is also)
    take_of x y j i a (inr e) is also = (at (line_in p.line) (take_end x y e.0), grammar.of_take_end is also e.1)

    pub take_made : (x : List Piece) → p.spelled ≡ codes "recv" → Behind (name ∷ name ∷ awaited ∷ semicolon ∷ []) x → Makes x
    take_made _ same (first {k = k1} x (first {k = k2} y (first {k = k3} {a} k (first s nothing)))) =
        let t = take_of x.0 y.0 k2 k3 a k x.1 y.1 in
        made (codes "recv") (name ∷ name ∷ awaited ∷ semicolon ∷ []) _ (first {k = k1} x (first {k = k2} y (first {k = k3} k (first s nothing)))) t.0 same t.1

    pub outbranch_made : (x : List Piece) → p.spelled ≡ codes "outbranch" → Behind (name ∷ name ∷ semicolon ∷ []) x → Makes x
    outbranch_made _ same (first {k = k1} x (first {k = k2} y (first s nothing))) =
        made (codes "outbranch") (name ∷ name ∷ semicolon ∷ []) _ (first {k = k1} x (first {k = k2} y (first s nothing))) (at (line_in p.line) (outbranch x.0 y.0)) same (grammar.of_outbranch x.1 y.1)

    -- its arms end at a brace
    pub inbranch_made : (x : List Piece) → p.spelled ≡ codes "inbranch" → Behind (name ∷ fixed (codes "{") ∷ name ∷ fixed (codes ":") ∷ block o ∷ branches o ∷ fixed (codes "}") ∷ []) x → Makes x
    inbranch_made _ same (first {k = k1} x (first {k = k2} s (first {k = k3} y (first {k = k4} c (first {k = k5} b (first {k = k6} r (first e nothing))))))) =
        let step = at (line_in p.line) (inbranch x.0 (branch y.0 b.0 r.0)) in
        made (codes "inbranch") (name ∷ fixed (codes "{") ∷ name ∷ fixed (codes ":") ∷ block o ∷ branches o ∷ fixed (codes "}") ∷ []) _ (first {k = k1} x (first {k = k2} s (first {k = k3} y (first {k = k4} c (first {k = k5} b (first {k = k6} r (first e nothing))))))) step same
        (subst (λ (ps : List Piece). IsStatement L names o step (first_on (line_in p.line) (codes "inbranch") ∷ plain (names.word x.0) ∷ plain (codes "{") ∷ plain (names.word y.0) ∷ plain (codes ":") ∷ ps)) (append_assoc b.1 r.1 (plain (codes "}") ∷ []))
        (grammar.of_inbranch x.1 (grammar.one_arm y.1 b.2 r.2)))

    pub outwhile_made : (x : List Piece) → p.spelled ≡ codes "outwhile" → Behind (name ∷ expr whole ∷ block o ∷ []) x → Makes x
    outwhile_made _ same (first {k = k1} x (first {k = k2} {a} t (first b nothing))) =
        made (codes "outwhile") (name ∷ expr whole ∷ block o ∷ []) _ (first {k = k1} x (first {k = k2} t (first b nothing))) (at (line_in p.line) (outwhile x.0 t.0 b.0)) same (grammar.of_outwhile x.1 (expression k1 k2 a t) b.2)

    pub inwhile_made : (x : List Piece) → p.spelled ≡ codes "inwhile" → Behind (name ∷ block o ∷ []) x → Makes x
    inwhile_made _ same (first {k = k1} x (first b nothing)) = made (codes "inwhile") (name ∷ block o ∷ []) _ (first {k = k1} x (first b nothing)) (at (line_in p.line) (inwhile x.0 b.0)) same (grammar.of_inwhile x.1 b.2)

    pub relay_made : (x : List Piece) → p.spelled ≡ codes "relay" → Behind (name ∷ name ∷ block o ∷ []) x → Makes x
    relay_made _ same (first {k = k1} x (first {k = k2} y (first b nothing))) =
        made (codes "relay") (name ∷ name ∷ block o ∷ []) _ (first {k = k1} x (first {k = k2} y (first b nothing))) (at (line_in p.line) (relay x.0 y.0 b.0)) same (grammar.of_relay x.1 y.1 b.2)

    pub if_made : (x : List Piece) → p.spelled ≡ codes "if" → Behind (expr whole ∷ block o ∷ fixed (codes "else") ∷ block o ∷ []) x → Makes x
    if_made _ same (first {k = k1} {a} t (first {k = k2} b (first {k = k3} e (first c nothing)))) =
        made (codes "if") (expr whole ∷ block o ∷ fixed (codes "else") ∷ block o ∷ []) _ (first {k = k1} t (first {k = k2} b (first {k = k3} e (first c nothing)))) (at (line_in p.line) (if_else t.0 b.0 c.0)) same (grammar.of_if (expression n k1 a t) b.2 c.2)

    pub let_made : (x : List Piece) → p.spelled ≡ codes "let" → Behind (name ∷ fixed (codes "=") ∷ expr whole ∷ semicolon ∷ []) x → Makes x
    let_made _ same (first {k = k1} x (first {k = k2} e (first {k = k3} {a} t (first s nothing)))) =
        made (codes "let") (name ∷ fixed (codes "=") ∷ expr whole ∷ semicolon ∷ []) _ (first {k = k1} x (first {k = k2} e (first {k = k3} t (first s nothing)))) (at (line_in p.line) (let_be x.0 t.0)) same (grammar.of_let x.1 (expression k2 k3 a t))

    pub close_made : (x : List Piece) → p.spelled ≡ codes "close" → Behind (name ∷ semicolon ∷ []) x → Makes x
    close_made _ same (first {k = k1} x (first s nothing)) = made (codes "close") (name ∷ semicolon ∷ []) _ (first {k = k1} x (first s nothing)) (at (line_in p.line) (close x.0)) same (grammar.of_close x.1)

    pub request_made : (x : List Piece) → p.spelled ≡ codes "request" → Behind (name ∷ name ∷ fixed (codes "to") ∷ name ∷ semicolon ∷ []) x → Makes x
    request_made _ same (first {k = k1} x (first {k = k2} y (first {k = k3} f (first {k = k4} z (first s nothing))))) =
        made (codes "request") (name ∷ name ∷ fixed (codes "to") ∷ name ∷ semicolon ∷ []) _ (first {k = k1} x (first {k = k2} y (first {k = k3} f (first {k = k4} z (first s nothing))))) (at (line_in p.line) (request x.0 y.0 z.0)) same (grammar.of_request x.1 y.1 z.1)

    pub accept_made : (x : List Piece) → p.spelled ≡ codes "accept" → Behind (name ∷ name ∷ fixed (codes "from") ∷ name ∷ semicolon ∷ []) x → Makes x
    accept_made _ same (first {k = k1} x (first {k = k2} y (first {k = k3} f (first {k = k4} z (first s nothing))))) =
        made (codes "accept") (name ∷ name ∷ fixed (codes "from") ∷ name ∷ semicolon ∷ []) _ (first {k = k1} x (first {k = k2} y (first {k = k3} f (first {k = k4} z (first s nothing))))) (at (line_in p.line) (accept x.0 y.0 z.0)) same (grammar.of_accept x.1 y.1 z.1)

  -- one due alone
  pub lone : (k m : ℕ) (d : Due) (ts : List Piece) → AllSpelled L names k (d ∷ []) ts m → Spelled L names k d ts m
  lone k m d _ (first {a} x nothing) = subst (λ (t : List Piece). Spelled L names k d t m) (sym (append-nil a)) x

  -- and the statements after it
  pub statement_then : (n m : ℕ) (front : List Due) (ts : List Piece) → ((k : ℕ) (x : List Piece) → AllSpelled L names n front x k → Makes x) → AllSpelled L names n (front ++ stmts o ∷ []) ts m → Spelled L names n (stmts o) (p ∷ ts) m
  statement_then n m front ts makes h =
      let parts = in_two (Spelled L names) front (stmts o ∷ []) n m ts h in
      let one = makes parts.between parts.front parts.before in
      let rest = lone parts.between m (stmts o) parts.back parts.behind in (
        stmt_then one.step rest.0,
        one.pieces ++ rest.1,
        grammar.one_more one.is rest.2,
        subst (λ (t : List Piece). AreAlike (one.pieces ++ rest.1) (p ∷ t)) (sym parts.same) (alike_append one.pieces rest.1 (p ∷ parts.front) parts.back one.alike rest.3),
      )
