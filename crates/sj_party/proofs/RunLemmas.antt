-- Statements, blocks and arms are what is due.
use Rattle.std.proofs.Common.{◌≡◌, ℕ, suc, true, IsTrue, List, [], ◌∷◌, ◌++◌, length, refl, sym, subst, append_assoc, arith}
use Rattle.std.specs.Prelude.{codes}
use Rattle.std.proofs.lemmas.Bool.{le-ltb}
use Rattle.std.proofs.lemmas.Bool.Decides.{nat_tests}
use Rattle.sj_lang.specs.Term.{Term}
use Rattle.sj_lang.specs.Code.{Code, StmtAt, Branches}
use Rattle.sj_lang.specs.Limits.{Limits}
use Rattle.sj_grammar.specs.Names.{is_name}
use Rattle.sj_grammar.specs.Tables.{Spelling, IsNamed}
use Rattle.sj_grammar.specs.Positions.{Pieces, Piece, plain, first_on, all_plain}
use Rattle.sj_grammar.specs.Layers.{goes, step}
use Rattle.sj_grammar.specs.Expressions.{IsExpression}
use Rattle.sj_grammar.specs.ExpressionDues.{whole}
use Rattle.sj_grammar.specs.FileDues.{Due, stmts, block, branches, name, fixed, expr, semicolon, file_layer}
use Rattle.sj_grammar.specs.Statements.{scalar_piece, braced, called, IsStatement, IsCode, IsBlock, AreArms}
use Rattle.sj_grammar.specs.Statements as grammar
use Rattle.sj_proto.proofs.NamedPieceLemmas.{name_step}
use Rattle.sj_party.specs.Leads.{LeadsTo}
use Rattle.sj_party.proofs.TakenPieceLemmas.{leads_none, leads_one, leads_on, leads_expression}
pub use Rattle.sj_party.proofs.FirstStepLemmas.{send_step, delegate_step, recv_step, outbranch_step, inbranch_step, outwhile_step, inwhile_step, relay_step, if_step, let_step, close_step, request_step, accept_step, close_block, open_block, scalar_step}

module _ (L : Limits) where
  -- a piece that is due
  piece_leads : (n m : ℕ) (ds es fs : List Due) (p : Piece) (a : List Piece) → step file_layer L n ds p.spelled ≡ goes m es → ((k : ℕ) → LeadsTo L k es a fs) → LeadsTo L n ds (p ∷ a) fs
  piece_leads n m ds es fs p a e r = leads_one L n m ds es fs p a e (r m)

  semicolon_leads : (n : ℕ) (ds : List Due) → LeadsTo L n (semicolon ∷ ds) (plain (codes ";") ∷ []) ds
  semicolon_leads n ds = record { count = n; steps = refl }

  module _ (names : Spelling) where
    pub name_leads : (x n : ℕ) (ds es : List Due) (a : List Piece) → IsNamed L names.word x → ((k : ℕ) → LeadsTo L k ds a es) → LeadsTo L n (name ∷ ds) (called L names x ∷ a) es
    name_leads x n ds es a is r = leads_one L n n (name ∷ ds) ds es (called L names x) a (name_step L names.word x n ds is) (r n)

    -- an expression up to its semicolon, and up to a block
    ended_leads : (t : Term) (e : Pieces) (n : ℕ) (ds : List Due) → IsExpression L names t e → LeadsTo L n (expr whole ∷ semicolon ∷ ds) (all_plain e ++ plain (codes ";") ∷ []) ds
    ended_leads t e n ds is = leads_expression L names t e n (semicolon ∷ ds) ds (plain (codes ";")) [] is (λ k. (refl, refl)) (λ k. semicolon_leads k ds)

    tested_leads : (t : Term) (e : Pieces) (o n : ℕ) (ds es : List Due) (a : List Piece) → IsExpression L names t e → ((k : ℕ) → LeadsTo L k (block o ∷ ds) (plain (codes "{") ∷ a) es)
        → LeadsTo L n (expr whole ∷ block o ∷ ds) (all_plain e ++ plain (codes "{") ∷ a) es
    tested_leads t e o n ds es a is r = leads_expression L names t e n (block o ∷ ds) es (plain (codes "{")) a is (λ k. (refl, refl)) r

    arm_step : (m o n : ℕ) (ds : List Due) → IsNamed L names.word m → step file_layer L n (branches o ∷ ds) (names.word m) ≡ goes n (fixed (codes ":") ∷ block o ∷ branches o ∷ ds)
    arm_step m o n ds is =
        let t : IsTrue (is_name (names.word m)) = is.name in
        let named : is_name (names.word m) ≡ true = grind (arith, nat_tests) in
        rw (named, le-ltb L.name (length (names.word m)) is.short) refl

    -- the brace after the last arm
    close_arms : (o n : ℕ) (ds : List Due) → step file_layer L n (branches o ∷ fixed (codes "}") ∷ ds) (codes "}") ≡ goes n ds
    close_arms o n ds = refl

    mutual
      pub code_leads : {o : ℕ} {c : Code} {a : List Piece} → IsCode L names o c a → (n : ℕ) (ds : List Due) → LeadsTo L n (stmts o ∷ ds) a (stmts o ∷ ds)
      code_leads {o} grammar.none n ds = leads_none L n (stmts o ∷ ds)
      code_leads {o} (grammar.one_more {a} {b} s c) n ds = leads_on L n (stmts o ∷ ds) (stmts o ∷ ds) (stmts o ∷ ds) a b (statement_leads s n ds) (λ k. code_leads c k ds)

      pub block_leads : {o : ℕ} {c : Code} {a : List Piece} → IsBlock L names o c a → (n : ℕ) (ds : List Due) → LeadsTo L n (block o ∷ ds) a ds
      block_leads {o} (grammar.of_code {a} deep c) n ds =
          let within = fixed (codes "}") ∷ ds in
          leads_one L n n (block o ∷ ds) (stmts (suc o) ∷ within) ds (plain (codes "{")) (a ++ plain (codes "}") ∷ []) (open_block L o n ds deep)
          (leads_on L n (stmts (suc o) ∷ within) (stmts (suc o) ∷ within) ds a (plain (codes "}") ∷ []) (code_leads c n within)
          (λ k. leads_one L k k (stmts (suc o) ∷ within) ds ds (plain (codes "}")) [] (close_block L (suc o) k ds) (leads_none L k ds)))

      pub arms_leads : {o : ℕ} {b : Branches} {a : List Piece} → AreArms L names o b a → (n : ℕ) (ds : List Due) → LeadsTo L n (branches o ∷ ds) a (branches o ∷ ds)
      arms_leads {o} grammar.no_arm n ds = leads_none L n (branches o ∷ ds)
      arms_leads {o} (grammar.one_arm {m} {a} {b} is c more) n ds =
          leads_one L n n (branches o ∷ ds) (fixed (codes ":") ∷ block o ∷ branches o ∷ ds) (branches o ∷ ds) (called L names m) (plain (codes ":") ∷ (a ++ b)) (arm_step m o n ds is)
          (leads_one L n n (fixed (codes ":") ∷ block o ∷ branches o ∷ ds) (block o ∷ branches o ∷ ds) (branches o ∷ ds) (plain (codes ":")) (a ++ b) refl
          (leads_on L n (block o ∷ branches o ∷ ds) (branches o ∷ ds) (branches o ∷ ds) a b (block_leads c n (branches o ∷ ds)) (λ k. arms_leads more k ds)))

      pub statement_leads : {o : ℕ} {s : StmtAt} {a : List Piece} → IsStatement L names o s a → (n : ℕ) (ds : List Due) → LeadsTo L n (stmts o ∷ ds) a (stmts o ∷ ds)
      statement_leads {o} (grammar.of_send {l} {x} {t} {e} is h) n ds =
          piece_leads n n _ _ _ (first_on l (codes "send")) _ (send_step L o n ds) (λ k. name_leads x k _ _ _ is (λ k. ended_leads t e k (stmts o ∷ ds) h))
      statement_leads {o} (grammar.of_delegate {l} {x} {y} is also) n ds =
          piece_leads n n _ _ _ (first_on l (codes "delegate")) _ (delegate_step L o n ds) (λ k. name_leads x k _ _ _ is (λ k. name_leads y k _ _ _ also (λ k. semicolon_leads k (stmts o ∷ ds))))
      statement_leads {o} (grammar.of_take {l} {x} {n = m} {k = kind} is also) n ds =
          piece_leads n n _ _ _ (first_on l (codes "recv")) _ (recv_step L o n ds) (λ k. name_leads x k _ _ _ is (λ k. name_leads m k _ _ _ also
          (λ k. piece_leads k k _ _ _ (plain (scalar_piece kind)) _ (scalar_step L kind k (semicolon ∷ stmts o ∷ ds)) (λ k. semicolon_leads k (stmts o ∷ ds)))))
      statement_leads {o} (grammar.of_take_end {l} {x} {y} {p} is also third) n ds =
          piece_leads n n _ _ _ (first_on l (codes "recv")) _ (recv_step L o n ds) (λ k. name_leads x k _ _ _ is (λ k. name_leads y k _ _ _ also
          (λ k. piece_leads k k _ (name ∷ semicolon ∷ stmts o ∷ ds) _ (plain (codes "session")) _ refl (λ k. name_leads p k _ _ _ third (λ k. semicolon_leads k (stmts o ∷ ds))))))
      statement_leads {o} (grammar.of_outbranch {l} {x} {m} is also) n ds =
          piece_leads n n _ _ _ (first_on l (codes "outbranch")) _ (outbranch_step L o n ds) (λ k. name_leads x k _ _ _ is (λ k. name_leads m k _ _ _ also (λ k. semicolon_leads k (stmts o ∷ ds))))
      statement_leads {o} (grammar.of_inbranch {l} {x} is (grammar.one_arm {m} {a} {b} also c more)) n ds =
          let behind = branches o ∷ fixed (codes "}") ∷ stmts o ∷ ds in
          piece_leads n n _ _ _ (first_on l (codes "inbranch")) _ (inbranch_step L o n ds) (λ k. name_leads x k _ _ _ is
          (λ k. piece_leads k k _ _ _ (plain (codes "{")) _ refl (λ k. name_leads m k _ _ _ also
          (λ k. piece_leads k k _ (block o ∷ behind) _ (plain (codes ":")) _ refl
          (λ k. subst (λ (ps : List Piece). LeadsTo L k (block o ∷ behind) ps (stmts o ∷ ds)) (sym (append_assoc a b (plain (codes "}") ∷ [])))
          (leads_on L k (block o ∷ behind) behind (stmts o ∷ ds) a (b ++ plain (codes "}") ∷ []) (block_leads c k behind)
          (λ k. leads_on L k behind behind (stmts o ∷ ds) b (plain (codes "}") ∷ []) (arms_leads more k (fixed (codes "}") ∷ stmts o ∷ ds))
          (λ k. leads_one L k k behind (stmts o ∷ ds) (stmts o ∷ ds) (plain (codes "}")) [] (close_arms o k (stmts o ∷ ds)) (leads_none L k (stmts o ∷ ds))))))))))
      statement_leads {o} (grammar.of_outwhile {l} {x} {t} {e} {a} is h (grammar.of_code {a = c} deep inner)) n ds =
          piece_leads n n _ _ _ (first_on l (codes "outwhile")) _ (outwhile_step L o n ds) (λ k. name_leads x k _ _ _ is
          (λ k. tested_leads t e o k (stmts o ∷ ds) (stmts o ∷ ds) (c ++ plain (codes "}") ∷ []) h (λ k. block_leads (grammar.of_code deep inner) k (stmts o ∷ ds))))
      statement_leads {o} (grammar.of_inwhile {l} {x} {a} is c) n ds =
          piece_leads n n _ _ _ (first_on l (codes "inwhile")) _ (inwhile_step L o n ds) (λ k. name_leads x k _ _ _ is (λ k. block_leads c k (stmts o ∷ ds)))
      statement_leads {o} (grammar.of_relay {l} {x} {y} {a} is also c) n ds =
          piece_leads n n _ _ _ (first_on l (codes "relay")) _ (relay_step L o n ds) (λ k. name_leads x k _ _ _ is (λ k. name_leads y k _ _ _ also (λ k. block_leads c k (stmts o ∷ ds))))
      statement_leads {o} (grammar.of_if {l} {t} {e} {b} h (grammar.of_code {a = c} deep inner) other) n ds =
          let behind = fixed (codes "else") ∷ block o ∷ stmts o ∷ ds in
          piece_leads n n _ _ _ (first_on l (codes "if")) _ (if_step L o n ds)
          (λ k. tested_leads t e o k behind (stmts o ∷ ds) ((c ++ plain (codes "}") ∷ []) ++ plain (codes "else") ∷ b) h
          (λ k. leads_on L k (block o ∷ behind) behind (stmts o ∷ ds) (braced c) (plain (codes "else") ∷ b) (block_leads (grammar.of_code deep inner) k behind)
          (λ k. piece_leads k k behind (block o ∷ stmts o ∷ ds) (stmts o ∷ ds) (plain (codes "else")) b refl (λ k. block_leads other k (stmts o ∷ ds)))))
      statement_leads {o} (grammar.of_let {l} {n = m} {t} {e} is h) n ds =
          piece_leads n n _ _ _ (first_on l (codes "let")) _ (let_step L o n ds) (λ k. name_leads m k _ _ _ is (λ k. piece_leads k k _ _ _ (plain (codes "=")) _ refl (λ k. ended_leads t e k (stmts o ∷ ds) h)))
      statement_leads {o} (grammar.of_close {l} {x} is) n ds =
          piece_leads n n _ _ _ (first_on l (codes "close")) _ (close_step L o n ds) (λ k. name_leads x k _ _ _ is (λ k. semicolon_leads k (stmts o ∷ ds)))
      statement_leads {o} (grammar.of_request {l} {x} {p} {b} is also third) n ds =
          piece_leads n n _ _ _ (first_on l (codes "request")) _ (request_step L o n ds) (λ k. name_leads x k _ _ _ is (λ k. name_leads p k _ _ _ also
          (λ k. piece_leads k k _ (name ∷ semicolon ∷ stmts o ∷ ds) _ (plain (codes "to")) _ refl (λ k. name_leads b k _ _ _ third (λ k. semicolon_leads k (stmts o ∷ ds))))))
      statement_leads {o} (grammar.of_accept {l} {x} {p} {b} is also third) n ds =
          piece_leads n n _ _ _ (first_on l (codes "accept")) _ (accept_step L o n ds) (λ k. name_leads x k _ _ _ is (λ k. name_leads p k _ _ _ also
          (λ k. piece_leads k k _ (name ∷ semicolon ∷ stmts o ∷ ds) _ (plain (codes "from")) _ refl (λ k. name_leads b k _ _ _ third (λ k. semicolon_leads k (stmts o ∷ ds))))))
