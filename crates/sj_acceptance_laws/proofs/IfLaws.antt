-- The tests of an `if` all pass exactly where an environment follows it, where its
-- arms' do, and then that one.
use Rattle.std.proofs.Common.{◌≡◌, ℕ, List, [], ◌∷◌, ◌++◌, ◌&&◌, Some, None, Bool, true, cond, ap, sym, subst}
use Rattle.sj_lang.specs.declared.party.Scalar.TheVariants.{Boolean}
use Rattle.sj_lang.specs.Term.{Term}
use Rattle.sj_lang.specs.Code.{Code, if_else}
use Rattle.sj_lang.specs.FileAt.{ProtocolAt}
use Rattle.sj_acceptance.specs.Environment.{Env, IsCommon}
use Rattle.sj_acceptance.specs.EnvAt.{EnvAt, env_of}
use Rattle.sj_acceptance.specs.Kinds.{HasKind}
use Rattle.sj_acceptance.specs.Follows.{Does}
use Rattle.sj_acceptance.specs.Faults.{first_fault}
use Rattle.sj_acceptance.specs.KindTests.{kind_of, term_tests}
use Rattle.sj_acceptance.specs.Sameness.{is_same_kind, is_same_ends}
use Rattle.sj_acceptance.specs.Tests.{deed_tests, after_deed, code_tests, after_code, condition_tests}
use Rattle.sj_acceptance_laws.proofs.FaultLemmas.{all_pass, pass_both, first_passes, both_true}
use Rattle.sj_acceptance_laws.proofs.KindLaws.{same_kind, has_kind, kind_passes}
use Rattle.sj_acceptance_laws.proofs.LoopLaws.{Leads, Passes}
use Rattle.sj_acceptance_laws.proofs.JoinLaws.{joins, joined-is}

and_true : (b : Bool) → b ≡ true → (b && true) ≡ true
and_true b h = ap (λ c. c && true) h

-- `if`, where its arms are known
module _ (ps : List ProtocolAt) (parties : List ℕ) (line : ℕ) (env : EnvAt) (e : Term) (first second : Code) where
  pub if_follows : Leads ps parties first → Leads ps parties second → first_fault (deed_tests ps parties line env (if_else e first second)) ≡ None
      → Does ps parties (if_else e first second) (env_of env) (env_of (after_deed ps env (if_else e first second)))
  if_follows l m h =
      let a = all_pass (condition_tests line env e ++ code_tests ps parties env first ++ code_tests ps parties env second) _ h in
      let b = all_pass (condition_tests line env e ++ code_tests ps parties env first) (code_tests ps parties env second) a.0 in
      let c = all_pass (condition_tests line env e) (code_tests ps parties env first) b.0 in
      let d = all_pass (term_tests line env.variables e) _ c.0 in
      let kind : HasKind (env_of env).kinds e Boolean = subst (HasKind (env_of env).kinds e) (same_kind (kind_of env.variables e) Boolean (first_passes 7 line (is_same_kind (kind_of env.variables e) Boolean) [] d.1).0) (has_kind line env.variables e d.0) in
      let one = after_code ps env first in
      let other = after_code ps env second in
      (kind, env_of one, l env c.1, env_of other, m env b.1, joins one (other ∷ []) (and_true (is_same_ends one.ends other.ends) (first_passes 9 line _ [] a.1).0))

  pub if_passes : Passes ps parties first → Passes ps parties second → (next : Env) → Does ps parties (if_else e first second) (env_of env) next
      → (first_fault (deed_tests ps parties line env (if_else e first second)) ≡ None) × (next ≡ env_of (after_deed ps env (if_else e first second)))
  if_passes l m next d =
      let k = kind_passes line env.variables e Boolean d.0 in
      let p = l env d.1 d.2 in
      let q = m env d.3 d.4 in
      let one = after_code ps env first in
      let other = after_code ps env second in
      let common : IsCommon (env_of one ∷ env_of other ∷ []) next = subst (λ (es : List Env). IsCommon es next) (λ i. p.1 i ∷ q.1 i ∷ []) d.5 in
      let j = joined-is one (other ∷ []) next common in (
        pass_both (condition_tests line env e ++ code_tests ps parties env first ++ code_tests ps parties env second) _
            (pass_both (condition_tests line env e ++ code_tests ps parties env first) (code_tests ps parties env second)
            (pass_both (condition_tests line env e) (code_tests ps parties env first)
            (pass_both (term_tests line env.variables e) _ k.0 (ap (λ j. cond (is_same_kind j Boolean) None (Some (7, line))) (sym k.1))) p.0) q.0)
            (ap (λ b. cond b None (Some (9, line))) (both_true (is_same_ends one.ends other.ends) true j.0).0),
        j.1,
      )
