-- A block leaves what it doesn't name.
use Rattle.std.proofs.Common.{◌≡◌, ◌≢◌, ℕ, List, [], ◌∷◌, ◌++◌, None, Bool, true, false, ◌==◌, ◌||◌, refl, sym, ◌∙◌}
use Rattle.std.proofs.lemmas.Bool.Decides.{Decides-eqb}
use Rattle.std.specs.FinMap.{get}
use Rattle.sj_lang.specs.Code.{Code, StmtAt, DeedAt, no_stmt, stmt_then, at, send, delegate, take_value, take_end, outbranch, inbranch, outwhile, inwhile, relay, if_else, let_be, close, request, accept, no_branch, branch}
use Rattle.sj_lang.specs.FileAt.{ProtocolAt}
use Rattle.sj_lang.specs.declared.proto.Way.TheVariants.{Into}
use Rattle.sj_acceptance.specs.EnvAt.{EnvAt, with_live, without_live, is_live, place_at}
use Rattle.sj_acceptance.specs.Faults.{first_fault}
use Rattle.sj_acceptance.specs.FirstItem.{is_choice, arm_place}
use Rattle.sj_acceptance.specs.LabelTests.{is_among}
use Rattle.sj_acceptance.specs.Tests.{code_tests, after_code, stmt_tests, after_stmt, deed_tests, after_deed, branches_tests, branching_tests, condition_tests}
use Rattle.sj_acceptance.specs.Rules.{not_there, other_action, arms_differ, other_arms}
use Rattle.sj_check.specs.Named.{ends_named, stmt_ends, deed_ends, branch_ends}
use Rattle.sj_acceptance_laws.proofs.FaultLemmas.{all_pass}
use Rattle.sj_check.proofs.MapLemmas.{get-insert_other, get-remove_other}

-- a name that isn't among both is in neither
pub apart-append : (q : ℕ) (xs ys : List ℕ) → is_among q (xs ++ ys) ≡ false → (is_among q xs ≡ false) × (is_among q ys ≡ false)
apart-append q [] ys h = (refl, h)
apart-append q (x ∷ xs) ys h =
    elim (x == q) as (λ b. (b || is_among q (xs ++ ys)) ≡ false → ((b || is_among q xs) ≡ false) × (is_among q ys ≡ false)) [
      | true ↦ λ e. absurd (cc)
      | false ↦ λ e. apart-append q xs ys e
    ] h

pub apart-cons : (q x : ℕ) (xs : List ℕ) → is_among q (x ∷ xs) ≡ false → (q ≢ x) × (is_among q xs ≡ false)
apart-cons q x xs h =
    elim (x == q) as (λ b. (x == q) ≡ b → (b || is_among q xs) ≡ false → (q ≢ x) × (is_among q xs ≡ false)) [
      | true ↦ λ t e. absurd (cc)
      | false ↦ λ t e. ((λ s. absurd (let u : (x == q) ≡ true = (Decides-eqb x q).1 (sym s) in cc)), e)
    ] refl h

-- an `inbranch` without arms doesn't pass
no_arms : (line : ℕ) (env : EnvAt) (x : ℕ) → first_fault (branching_tests line env x no_branch) ≡ None → ⊥
no_arms line env x h = third (is_live env x) (is_choice Into (place_at env x)) h
  where
    third : (a b : Bool) → first_fault ((not_there, line, a) ∷ (other_action, line, b) ∷ (other_arms, line, false) ∷ []) ≡ None → ⊥
    third true true h = absurd (cc)
    third true false h = absurd (cc)
    third false b h = absurd (cc)

mutual
  pub code-unnamed : (ps : List ProtocolAt) (names : List ℕ) (env : EnvAt) (c : Code) (q : ℕ) → is_among q (ends_named c) ≡ false → first_fault (code_tests ps names env c) ≡ None
      → get (after_code ps env c).ends q ≡ get env.ends q
  code-unnamed ps names env no_stmt q h p = refl
  code-unnamed ps names env (stmt_then s c) q h p =
      let n = apart-append q (stmt_ends s) (ends_named c) h in
      let t = all_pass (stmt_tests ps names env s) (code_tests ps names (after_stmt ps env s) c) p in
      code-unnamed ps names (after_stmt ps env s) c q n.1 t.1 ∙ stmt-unnamed ps names env s q n.0 t.0

  stmt-unnamed : (ps : List ProtocolAt) (names : List ℕ) (env : EnvAt) (s : StmtAt) (q : ℕ) → is_among q (stmt_ends s) ≡ false → first_fault (stmt_tests ps names env s) ≡ None
      → get (after_stmt ps env s).ends q ≡ get env.ends q
  stmt-unnamed ps names env (at line deed) q h p = deed-unnamed ps names line env deed q h p

  deed-unnamed : (ps : List ProtocolAt) (names : List ℕ) (line : ℕ) (env : EnvAt) (a : DeedAt) (q : ℕ) → is_among q (deed_ends a) ≡ false → first_fault (deed_tests ps names line env a) ≡ None
      → get (after_deed ps env a).ends q ≡ get env.ends q
  deed-unnamed ps names line env (send x e) q h p = get-insert_other env.ends x q _ (apart-cons q x [] h).0
  deed-unnamed ps names line env (delegate x y) q h p =
      let n = apart-cons q x (y ∷ []) h in
      get-insert_other (without_live env y).ends x q _ n.0 ∙ get-remove_other env.ends y q (apart-cons q y [] n.1).0
  deed-unnamed ps names line env (take_value x n k) q h p = get-insert_other env.ends x q _ (apart-cons q x [] h).0
  deed-unnamed ps names line env (take_end x y r) q h p =
      let n = apart-cons q x (y ∷ []) h in
      get-insert_other (with_live env x _).ends y q _ (apart-cons q y [] n.1).0 ∙ get-insert_other env.ends x q _ n.0
  deed-unnamed ps names line env (outbranch x l) q h p = get-insert_other env.ends x q _ (apart-cons q x [] h).0
  deed-unnamed ps names line env (inbranch x no_branch) q h p =
      absurd (no_arms line env x (all_pass (branching_tests line env x no_branch) [] (all_pass (branching_tests line env x no_branch ++ []) ((arms_differ, line, true) ∷ []) p).0).0)
  deed-unnamed ps names line env (inbranch x (branch l c bs)) q h p =
      let n = apart-cons q x (ends_named c ++ branch_ends bs) h in
      let inner = with_live env x (arm_place l (place_at env x)) in
      let t = all_pass (branching_tests line env x (branch l c bs)) (branches_tests ps names env x (branch l c bs)) (all_pass (branching_tests line env x (branch l c bs) ++ branches_tests ps names env x (branch l c bs)) _ p).0 in
      code-unnamed ps names inner c q (apart-append q (ends_named c) (branch_ends bs) n.1).0 (all_pass (code_tests ps names inner c) (branches_tests ps names env x bs) t.1).0
      ∙ get-insert_other env.ends x q _ n.0
  deed-unnamed ps names line env (outwhile x e body) q h p = get-insert_other env.ends x q _ (apart-cons q x (ends_named body) h).0
  deed-unnamed ps names line env (inwhile x body) q h p = get-insert_other env.ends x q _ (apart-cons q x (ends_named body) h).0
  deed-unnamed ps names line env (relay x y body) q h p =
      let n = apart-cons q x (y ∷ ends_named body) h in
      get-insert_other (with_live env x _).ends y q _ (apart-cons q y (ends_named body) n.1).0 ∙ get-insert_other env.ends x q _ n.0
  deed-unnamed ps names line env (if_else e a b) q h p =
      let t = all_pass (condition_tests line env e ++ code_tests ps names env a ++ code_tests ps names env b) _ p in
      let u = all_pass (condition_tests line env e ++ code_tests ps names env a) (code_tests ps names env b) t.0 in
      code-unnamed ps names env a q (apart-append q (ends_named a) (ends_named b) h).0 (all_pass (condition_tests line env e) (code_tests ps names env a) u.0).1
  deed-unnamed ps names line env (let_be n e) q h p = refl
  deed-unnamed ps names line env (close x) q h p = get-remove_other env.ends x q (apart-cons q x [] h).0
  deed-unnamed ps names line env (request x r b) q h p = get-insert_other env.ends x q _ (apart-cons q x [] h).0
  deed-unnamed ps names line env (accept x r b) q h p = get-insert_other env.ends x q _ (apart-cons q x [] h).0
