-- One statement of a block, and the rest.
use Rattle.std.proofs.Common.{◌≡◌, ℕ, ◌+◌, ◌<◌, suc, List, length, get_or, drop, Option, None, ap, sym, ◌∙◌, subst, add-one, drop-cons}
use Rattle.sj_lang.specs.declared.party.Stmt.{Stmt}
use Rattle.sj_lang.specs.Code as code
use Rattle.sj_lang.specs.CodeView.{code_of, stmt_of}
use Rattle.sj_acceptance.specs.EnvAt.{EnvAt}
use Rattle.sj_lang.specs.FileAt.{ProtocolAt}
use Rattle.sj_acceptance.specs.Faults.{first_fault}
use Rattle.sj_acceptance.specs.Tests.{stmt_tests, after_stmt, code_tests, after_code}
use Rattle.sj_check.specs.declared.refusal.CheckRefusal.{CheckRefusal}
use Rattle.sj_check.specs.Told.{Tells}
use Rattle.sj_check.proofs.FaultLemmas.{behind, Tells-front}

pub code_of-drop : (stmts : List Stmt) (i : ℕ) (s : Stmt) → i < length stmts → s ≡ get_or stmts i s → code_of (drop i stmts) ≡ code.stmt_then (stmt_of s) (code_of (drop (i + 1) stmts))
code_of-drop stmts i s h e = rw add-one (ap code_of (drop-cons stmts i s h) ∙ ap (λ x. code.stmt_then (stmt_of x) (code_of (drop (suc i) stmts))) (sym e))

module _ (ps : List ProtocolAt) (names : List ℕ) (stmts : List Stmt) (i : ℕ) (s : Stmt) (h : i < length stmts) (e : s ≡ get_or stmts i s) (env : EnvAt) where
  -- a fault of the statement is one of what is left
  pub stmt-fault : (o : Option (ℕ × ℕ)) (r : CheckRefusal) → first_fault (code_tests ps names env (code_of (drop i stmts))) ≡ o → Tells (first_fault (stmt_tests ps names env (stmt_of s))) r → Tells o r
  stmt-fault o r all t =
      let left = code_of (drop (i + 1) stmts) in
      subst (λ f. Tells f r) (ap (λ c. first_fault (code_tests ps names env c)) (sym (code_of-drop stmts i s h e)) ∙ all)
      (Tells-front (stmt_tests ps names env (stmt_of s)) (code_tests ps names (after_stmt ps env (stmt_of s)) left) r t)

  -- where the statement passes, the rest decides
  pub stmt-tests : (new : EnvAt) → first_fault (stmt_tests ps names env (stmt_of s)) ≡ None → new ≡ after_stmt ps env (stmt_of s)
      → first_fault (code_tests ps names new (code_of (drop (i + 1) stmts))) ≡ first_fault (code_tests ps names env (code_of (drop i stmts)))
  stmt-tests new p n =
      let left = code_of (drop (i + 1) stmts) in
      ap (λ v. first_fault (code_tests ps names v left)) n ∙ sym (behind (stmt_tests ps names env (stmt_of s)) (code_tests ps names (after_stmt ps env (stmt_of s)) left) p)
      ∙ ap (λ c. first_fault (code_tests ps names env c)) (sym (code_of-drop stmts i s h e))

  pub stmt-after : (new : EnvAt) → new ≡ after_stmt ps env (stmt_of s)
      → after_code ps new (code_of (drop (i + 1) stmts)) ≡ after_code ps env (code_of (drop i stmts))
  stmt-after new n =
      let left = code_of (drop (i + 1) stmts) in
      ap (λ v. after_code ps v left) n ∙ ap (λ c. after_code ps env c) (sym (code_of-drop stmts i s h e))
