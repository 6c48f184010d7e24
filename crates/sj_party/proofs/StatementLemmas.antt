-- The statement that a first word and what is due after it make.
use Rattle.std.proofs.Common.{◌≡◌, ℕ, List, [], ◌∷◌, ◌++◌, ap, sym, ◌∙◌, append_assoc, inl, inr}
use Rattle.std.specs.Prelude.{codes}
use Rattle.sj_lang.specs.Code.{StmtAt, stmt_then, at, send, delegate, take_value, take_end, outbranch, inbranch, outwhile, inwhile, relay, if_else, let_be, close, request, accept, branch}
use Rattle.sj_grammar.specs.Tables.{Spelling}
use Rattle.sj_grammar.specs.Positions.{Pieces, Piece, plain, first_on, spellings}
use Rattle.sj_grammar.specs.ExpressionDues.{whole}
use Rattle.sj_grammar.specs.Statements.{IsStatement, braced}
use Rattle.sj_grammar.specs.Statements as grammar
use Rattle.sj_grammar.specs.FileDues.{Due, stmts, block, branches, awaited, name, fixed, expr, semicolon, file_layer}
use Rattle.sj_grammar.proofs.CompletionLemmas.{Alls-split, lone}
use Rattle.sj_proto.proofs.LineLemmas.{spellings-append}
use Rattle.sj_party.proofs.LimitLemmas.{Widely, widely, widely_two, widely_three, expression_widely}
use Rattle.sj_party.proofs.DuePieceLemmas.{Named, Spelled, AllSpelled, awaited_lines, lines_of, lines_spelled}

module _ (names : Spelling) where
  -- a statement of that word and these pieces
  abbrev pub Makes : ℕ → List ℕ → Pieces → Type 0
  Makes o w x = (t : StmtAt) × (a : List Piece) × Widely (λ M. IsStatement M names o t a) × (spellings a ≡ w ∷ x)

  -- with the lines of what is due after the word
  made : (o : ℕ) (w : List ℕ) (ds : List Due) (x : Pieces) (h : AllSpelled names ds x) (t : StmtAt) → Widely (λ M. IsStatement M names o t (first_on 0 w ∷ lines_of names ds x h)) → Makes o w x
  made o w ds x h t is = (t, first_on 0 w ∷ lines_of names ds x h, is, ap (λ (ps : Pieces). w ∷ ps) (lines_spelled names ds x h))

  -- the statements, one by one
  module _ (o : ℕ) (x : Pieces) where
    pub send_made : AllSpelled names (name ∷ expr whole ∷ semicolon ∷ []) x → Makes o (codes "send") x
    send_made h =
        made o (codes "send") (name ∷ expr whole ∷ semicolon ∷ []) x h (at 0 (send h.2.0 h.3.2.0))
        (widely_two _ _ _ (λ M a b. grammar.of_send a b) h.2.1 (expression_widely names h.3.2.0 h.3.0 h.3.2.1))

    pub delegate_made : AllSpelled names (name ∷ name ∷ semicolon ∷ []) x → Makes o (codes "delegate") x
    delegate_made h = made o (codes "delegate") (name ∷ name ∷ semicolon ∷ []) x h (at 0 (delegate h.2.0 h.3.2.0)) (widely_two _ _ _ (λ M a b. grammar.of_delegate a b) h.2.1 h.3.2.1)

    -- a value, or an end
    take_of : (n m : ℕ) (a : Pieces) (k : Spelled names awaited a) → Named names n → Named names m
        → (t : StmtAt) × Widely (λ M. IsStatement M names o t (first_on 0 (codes "recv") ∷ plain (names.word n) ∷ plain (names.word m) ∷ (awaited_lines names a k ++ plain (codes ";") ∷ [])))
    take_of n m a (inl k) is also = (at 0 (take_value n m k.0), widely_two _ _ _ (λ M a b. grammar.of_take a b) is also)
    take_of n m a (inr p) is also = (at 0 (take_end n m p.0), widely_three _ _ _ _ (λ M a b c. grammar.of_take_end a b c) is also p.1)

    pub take_made : AllSpelled names (name ∷ name ∷ awaited ∷ semicolon ∷ []) x → Makes o (codes "recv") x
    take_made h =
        let t = take_of h.2.0 h.3.2.0 h.3.3.0 h.3.3.2 h.2.1 h.3.2.1 in
        made o (codes "recv") (name ∷ name ∷ awaited ∷ semicolon ∷ []) x h t.0 t.1

    pub outbranch_made : AllSpelled names (name ∷ name ∷ semicolon ∷ []) x → Makes o (codes "outbranch") x
    outbranch_made h = made o (codes "outbranch") (name ∷ name ∷ semicolon ∷ []) x h (at 0 (outbranch h.2.0 h.3.2.0)) (widely_two _ _ _ (λ M a b. grammar.of_outbranch a b) h.2.1 h.3.2.1)

    -- its arms end at a brace
    pub inbranch_made : AllSpelled names (name ∷ fixed (codes "{") ∷ name ∷ fixed (codes ":") ∷ block o ∷ branches o ∷ fixed (codes "}") ∷ []) x → Makes o (codes "inbranch") x
    inbranch_made h =
        let n = h.2 in
        let m = h.3.3.2 in
        let first = h.3.3.3.3.2 in
        let more = h.3.3.3.3.3.2 in
        let head : List Piece → List Piece = λ ps. first_on 0 (codes "inbranch") ∷ plain (names.word n.0) ∷ plain (codes "{") ∷ plain (names.word m.0) ∷ plain (codes ":") ∷ ps in (
          at 0 (inbranch n.0 (branch m.0 first.0 more.0)),
          first_on 0 (codes "inbranch") ∷ plain (names.word n.0) ∷ braced (plain (names.word m.0) ∷ plain (codes ":") ∷ (first.1 ++ more.1)),
          widely_two _ _ _ (λ M a b. grammar.of_inbranch a b) n.1 (widely_three _ _ _ _ (λ M a b c. grammar.one_arm a b c) m.1 first.2 more.2),
          ap (λ (ps : List Piece). spellings (head ps)) (append_assoc first.1 more.1 (plain (codes "}") ∷ []))
              ∙ ap (λ (ps : Pieces). codes "inbranch" ∷ ps) (lines_spelled names (name ∷ fixed (codes "{") ∷ name ∷ fixed (codes ":") ∷ block o ∷ branches o ∷ fixed (codes "}") ∷ []) x h),
        )

    pub outwhile_made : AllSpelled names (name ∷ expr whole ∷ block o ∷ []) x → Makes o (codes "outwhile") x
    outwhile_made h =
        made o (codes "outwhile") (name ∷ expr whole ∷ block o ∷ []) x h (at 0 (outwhile h.2.0 h.3.2.0 h.3.3.2.0))
        (widely_three _ _ _ _ (λ M a b c. grammar.of_outwhile a b c) h.2.1 (expression_widely names h.3.2.0 h.3.0 h.3.2.1) h.3.3.2.2)

    pub inwhile_made : AllSpelled names (name ∷ block o ∷ []) x → Makes o (codes "inwhile") x
    inwhile_made h = made o (codes "inwhile") (name ∷ block o ∷ []) x h (at 0 (inwhile h.2.0 h.3.2.0)) (widely_two _ _ _ (λ M a b. grammar.of_inwhile a b) h.2.1 h.3.2.2)

    pub relay_made : AllSpelled names (name ∷ name ∷ block o ∷ []) x → Makes o (codes "relay") x
    relay_made h =
        made o (codes "relay") (name ∷ name ∷ block o ∷ []) x h (at 0 (relay h.2.0 h.3.2.0 h.3.3.2.0))
        (widely_three _ _ _ _ (λ M a b c. grammar.of_relay a b c) h.2.1 h.3.2.1 h.3.3.2.2)

    pub if_made : AllSpelled names (expr whole ∷ block o ∷ fixed (codes "else") ∷ block o ∷ []) x → Makes o (codes "if") x
    if_made h =
        made o (codes "if") (expr whole ∷ block o ∷ fixed (codes "else") ∷ block o ∷ []) x h (at 0 (if_else h.2.0 h.3.2.0 h.3.3.3.2.0))
        (widely_three _ _ _ _ (λ M a b c. grammar.of_if a b c) (expression_widely names h.2.0 h.0 h.2.1) h.3.2.2 h.3.3.3.2.2)

    pub let_made : AllSpelled names (name ∷ fixed (codes "=") ∷ expr whole ∷ semicolon ∷ []) x → Makes o (codes "let") x
    let_made h =
        made o (codes "let") (name ∷ fixed (codes "=") ∷ expr whole ∷ semicolon ∷ []) x h (at 0 (let_be h.2.0 h.3.3.2.0))
        (widely_two _ _ _ (λ M a b. grammar.of_let a b) h.2.1 (expression_widely names h.3.3.2.0 h.3.3.0 h.3.3.2.1))

    pub close_made : AllSpelled names (name ∷ semicolon ∷ []) x → Makes o (codes "close") x
    close_made h = made o (codes "close") (name ∷ semicolon ∷ []) x h (at 0 (close h.2.0)) (widely _ _ (λ M a. grammar.of_close a) h.2.1)

    pub request_made : AllSpelled names (name ∷ name ∷ fixed (codes "to") ∷ name ∷ semicolon ∷ []) x → Makes o (codes "request") x
    request_made h =
        made o (codes "request") (name ∷ name ∷ fixed (codes "to") ∷ name ∷ semicolon ∷ []) x h (at 0 (request h.2.0 h.3.2.0 h.3.3.3.2.0))
        (widely_three _ _ _ _ (λ M a b c. grammar.of_request a b c) h.2.1 h.3.2.1 h.3.3.3.2.1)

    pub accept_made : AllSpelled names (name ∷ name ∷ fixed (codes "from") ∷ name ∷ semicolon ∷ []) x → Makes o (codes "accept") x
    accept_made h =
        made o (codes "accept") (name ∷ name ∷ fixed (codes "from") ∷ name ∷ semicolon ∷ []) x h (at 0 (accept h.2.0 h.3.2.0 h.3.3.3.2.0))
        (widely_three _ _ _ _ (λ M a b c. grammar.of_accept a b c) h.2.1 h.3.2.1 h.3.3.3.2.1)

  -- and the statements after it
  pub statement_then : (o : ℕ) (s w : List ℕ) (front : List Due) (ts : Pieces) → s ≡ w → ((x : Pieces) → AllSpelled names front x → Makes o w x) → AllSpelled names (front ++ stmts o ∷ []) ts → Spelled names (stmts o) (s ∷ ts)
  statement_then o s w front ts same makes h =
      let parts = Alls-split file_layer (Spelled names) front (stmts o ∷ []) ts h in
      let one = makes parts.0 parts.2 in
      let rest = lone file_layer (Spelled names) (stmts o) parts.1 parts.3 in (
        stmt_then one.0 rest.0,
        one.1 ++ rest.1,
        widely_two _ _ _ (λ M a b. grammar.one_more a b) one.2 rest.2,
        (λ i. same i ∷ parts.4 i) ∙ (λ i. sym one.3 i ++ rest.3 i) ∙ sym (spellings-append one.1 rest.1),
      )
