-- The tests of `if`, from those of its parts.
use Rattle.std.proofs.Common.{List, [], ◌∷◌, ◌≡◌, ℕ, ◌++◌, Some, None, cond, sym, ap, subst, ◌∙◌}
use Rattle.std.specs.Prelude.{Result, Ok, Err}
use Rattle.sj_lang.specs.Term.{Term}
use Rattle.sj_lang.specs.Code as code
use Rattle.sj_lang.specs.Code.{Code, StmtAt}
use Rattle.sj_acceptance.specs.EnvAt.{EnvAt}
use Rattle.sj_lang.specs.FileAt.{ProtocolAt}
use Rattle.sj_acceptance.specs.Faults.{first_fault}
use Rattle.sj_acceptance.specs.Sameness.{is_same_ends}
use Rattle.sj_acceptance.specs.Tests.{stmt_tests, after_stmt, code_tests, after_code, condition_tests}
use Rattle.sj_check.specs.declared.refusal.CheckRefusal.{CheckRefusal}
use Rattle.sj_acceptance.specs.Arms.{common}
use Rattle.sj_acceptance.specs.Rules.{arms_differ}
use Rattle.sj_check.specs.Told.{Tells, Walks}
use Rattle.sj_check.proofs.FaultLemmas.{behind, Tells-front, Tells-behind}

module _ (ps : List ProtocolAt) (names : List ℕ) (line : ℕ) (env : EnvAt) (w : StmtAt) (e : Term) (first second : Code) (is : w ≡ code.at line (code.if_else e first second)) where
  -- up to the arms
  pub if-condition : (r : CheckRefusal) → Tells (first_fault (condition_tests line env e)) r → Tells (first_fault (stmt_tests ps names env w)) r
  if-condition r t = rw is (Tells-front (condition_tests line env e ++ code_tests ps names env first ++ code_tests ps names env second) _ r
      (Tells-front (condition_tests line env e ++ code_tests ps names env first) (code_tests ps names env second) r (Tells-front (condition_tests line env e) (code_tests ps names env first) r t)))

  module _ (p : first_fault (condition_tests line env e) ≡ None) where
    pub if-first : (r : CheckRefusal) → Tells (first_fault (code_tests ps names env first)) r → Tells (first_fault (stmt_tests ps names env w)) r
    if-first r t = rw is (Tells-front (condition_tests line env e ++ code_tests ps names env first ++ code_tests ps names env second) _ r
        (Tells-front (condition_tests line env e ++ code_tests ps names env first) (code_tests ps names env second) r (Tells-behind (condition_tests line env e) (code_tests ps names env first) r p t)))

    module _ (q : first_fault (code_tests ps names env first) ≡ None) where
      both : first_fault (condition_tests line env e ++ code_tests ps names env first) ≡ None
      both = behind (condition_tests line env e) (code_tests ps names env first) p ∙ q

      pub if-second : (r : CheckRefusal) → Tells (first_fault (code_tests ps names env second)) r → Tells (first_fault (stmt_tests ps names env w)) r
      if-second r t = rw is (Tells-front (condition_tests line env e ++ code_tests ps names env first ++ code_tests ps names env second) _ r
          (Tells-behind (condition_tests line env e ++ code_tests ps names env first) (code_tests ps names env second) r both t))

      module _ (s : first_fault (code_tests ps names env second) ≡ None) (a b : EnvAt) (ea : a ≡ after_code ps env first) (eb : b ≡ after_code ps env second) where
        pub if-ends : first_fault (stmt_tests ps names env w) ≡ cond (is_same_ends a.ends b.ends) None (Some (arms_differ, line))
        if-ends = rw (is, ea, eb) (behind (condition_tests line env e ++ code_tests ps names env first ++ code_tests ps names env second) _
            (behind (condition_tests line env e ++ code_tests ps names env first) (code_tests ps names env second) both ∙ s))

        -- what stands after the arms
        pub if-joined : {X : Type 0} (r : Result X CheckRefusal) (new : EnvAt)
            → Walks ((arms_differ, line, is_same_ends a.ends b.ends) ∷ []) (record a { variables = common a.variables b.variables }) new r → Walks (stmt_tests ps names env w) (after_stmt ps env w) new r
        if-joined (Ok x) new h = (if-ends ∙ h.0, h.1 ∙ (λ i. record { ends = (ea i).ends; variables = common (ea i).variables (eb i).variables }) ∙ ap (after_stmt ps env) (sym is))
        if-joined (Err e) new h = subst (λ o. Tells o e) (sym if-ends) h
