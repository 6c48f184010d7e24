-- One arm of an `inbranch`, and the rest.
use Rattle.std.proofs.Common.{◌≡◌, ℕ, zero, ◌+◌, ◌<◌, ◌≤◌, suc, List, [], ◌∷◌, ◌++◌, map, length, get_or, drop, Option, Some, None, Bool, true, false, ◌&&◌, cond, refl, ap, sym, ◌∙◌, subst, add-one, drop-cons, arith}
use Rattle.sj_lang.specs.declared.party.Stmt.{Stmt}
use Rattle.sj_lang.specs.declared.party.StmtArm.{StmtArm, out-StmtArm}
use Rattle.sj_lang.specs.Code as code
use Rattle.sj_lang.specs.Code.{Code, StmtAt, Branches}
use Rattle.sj_lang.specs.CodeView.{code_of, arm_of, branches_of}
use Rattle.sj_acceptance.specs.EnvAt.{EnvAt, with_live}
use Rattle.sj_lang.specs.FileAt.{ProtocolAt}
use Rattle.sj_acceptance.specs.Faults.{first_fault}
use Rattle.sj_acceptance.specs.FirstItem.{arm_place}
use Rattle.sj_acceptance.specs.Tests.{code_tests, after_code, stmt_tests, branches_tests, after_branches, branching_tests}
use Rattle.sj_acceptance.specs.EnvAt.{place_at}
use Rattle.sj_acceptance.specs.Arms.{is_one}
use Rattle.sj_check.specs.declared.refusal.CheckRefusal.{CheckRefusal}
use Rattle.sj_check.specs.Told.{Tells}
use Rattle.sj_check.proofs.FaultLemmas.{behind, Tells-front, Tells-behind}
use Rattle.sj_lang.proofs.FoldLemmas.{arm_of-fields}

-- the arms from an index on
abbrev pub from : List StmtArm → ℕ → Branches
from arms i = branches_of (map arm_of (drop i arms))

from-next : (arms : List StmtArm) (i : ℕ) (a : StmtArm) → i < length arms → a ≡ get_or arms i a → from arms i ≡ code.branch (out-StmtArm a).label (code_of (out-StmtArm a).body.items) (from arms (i + 1))
from-next arms i a h e = rw add-one (ap (λ xs. branches_of (map arm_of xs)) (drop-cons arms i a h)
    ∙ ap (λ x. branches_of (map arm_of (x ∷ drop (suc i) arms))) (sym e)
    ∙ ap (λ (p : ℕ × Code). code.branch p.0 p.1 (branches_of (map arm_of (drop (suc i) arms)))) (arm_of-fields a))

drop_all : (arms : List StmtArm) (i : ℕ) → length arms ≤ i → drop i arms ≡ []
drop_all [] zero h = refl
drop_all [] (suc i) h = refl
drop_all (a ∷ arms) zero h = absurd (omega arith)
drop_all (a ∷ arms) (suc i) h = drop_all arms i (omega arith)

pub from-end : (arms : List StmtArm) (i : ℕ) → length arms ≤ i → from arms i ≡ code.no_branch
from-end arms i h = ap (λ xs. branches_of (map arm_of xs)) (drop_all arms i h)

pub and_assoc : (a b c : Bool) → ((a && b) && c) ≡ (a && (b && c))
and_assoc true b c = refl
and_assoc false b c = refl

pub and_true : (a : Bool) → (a && true) ≡ a
and_true true = refl
and_true false = refl

module _ (ps : List ProtocolAt) (names : List ℕ) (env : EnvAt) (x : ℕ) (arms : List StmtArm) (i : ℕ) (a : StmtArm) (h : i < length arms) (e : a ≡ get_or arms i a)
    (xs : List Stmt) (body : xs ≡ (out-StmtArm a).body.items) (inner : EnvAt) (is : inner ≡ with_live env x (arm_place (out-StmtArm a).label (place_at env x))) where
  next : from arms i ≡ code.branch (out-StmtArm a).label (code_of xs) (from arms (i + 1))
  next = from-next arms i a h e ∙ ap (λ ys. code.branch (out-StmtArm a).label (code_of ys) (from arms (i + 1))) (sym body)

  parts : branches_tests ps names env x (from arms i) ≡ code_tests ps names inner (code_of xs) ++ branches_tests ps names env x (from arms (i + 1))
  parts = ap (branches_tests ps names env x) next ∙ ap (λ v. code_tests ps names v (code_of xs) ++ branches_tests ps names env x (from arms (i + 1))) (sym is)

  pub arm-fault : (o : Option (ℕ × ℕ)) (r : CheckRefusal) → first_fault (branches_tests ps names env x (from arms i)) ≡ o → Tells (first_fault (code_tests ps names inner (code_of xs))) r → Tells o r
  arm-fault o r all t = subst (λ f. Tells f r) (ap first_fault (sym parts) ∙ all) (Tells-front (code_tests ps names inner (code_of xs)) (branches_tests ps names env x (from arms (i + 1))) r t)

  pub arm-tests : first_fault (code_tests ps names inner (code_of xs)) ≡ None → first_fault (branches_tests ps names env x (from arms (i + 1))) ≡ first_fault (branches_tests ps names env x (from arms i))
  arm-tests p = sym (ap first_fault parts ∙ behind (code_tests ps names inner (code_of xs)) (branches_tests ps names env x (from arms (i + 1))) p)

  pub arm-after : (out : EnvAt) → out ≡ after_code ps inner (code_of xs) → after_branches ps env x (from arms i) ≡ out ∷ after_branches ps env x (from arms (i + 1))
  arm-after out o = ap (after_branches ps env x) next ∙ ap (λ v. after_code ps v (code_of xs) ∷ after_branches ps env x (from arms (i + 1))) (sym is)
      ∙ ap (λ v. v ∷ after_branches ps env x (from arms (i + 1))) (sym o)

-- the tests of the whole statement
module _ (ps : List ProtocolAt) (names : List ℕ) (line : ℕ) (env : EnvAt) (w : StmtAt) (x : ℕ) (bs : Branches) (is : w ≡ code.at line (code.inbranch x bs)) (p : first_fault (branching_tests line env x bs) ≡ None) where
  pub branch-arms : (r : CheckRefusal) → Tells (first_fault (branches_tests ps names env x bs)) r → Tells (first_fault (stmt_tests ps names env w)) r
  branch-arms r t = rw is (Tells-front (branching_tests line env x bs ++ branches_tests ps names env x bs) _ r (Tells-behind (branching_tests line env x bs) (branches_tests ps names env x bs) r p t))

  pub branch-ends : (b : Bool) → first_fault (branches_tests ps names env x bs) ≡ None → b ≡ is_one (after_branches ps env x bs) → first_fault (stmt_tests ps names env w) ≡ cond b None (Some (9, line))
  branch-ends b q o = rw (is, o) (behind (branching_tests line env x bs ++ branches_tests ps names env x bs) _ (behind (branching_tests line env x bs) (branches_tests ps names env x bs) p ∙ q))
