-- The tests of a block all pass exactly where it leads to an environment, and then to that one.
use Rattle.std.proofs.Common.{◌≡◌, ℕ, List, [], ◌∷◌, ◌++◌, Some, None, true, cond, map, refl, ap, sym, subst, ◌∙◌}
use Rattle.std.specs.FinMap.{get}
use Rattle.sj_lang.specs.declared.proto.Way.TheVariants.{Into}
use Rattle.sj_lang.specs.Place.{Place, Choices, choice}
use Rattle.sj_lang.specs.Code.{Code, DeedAt, Branches, no_stmt, stmt_then, at, send, delegate, take_value, take_end, outbranch, inbranch, outwhile, inwhile, relay, if_else, let_be, close, request, accept, no_branch, branch}
use Rattle.sj_lang.specs.FileAt.{ProtocolAt}
use Rattle.sj_acceptance.specs.Environment.{Env}
use Rattle.sj_acceptance.specs.EnvAt.{EnvAt, env_of, with_live, place_at}
use Rattle.sj_acceptance.specs.Labels.{labels_of, branch_labels}
use Rattle.sj_acceptance.specs.Follows.{Follows, Does, EachArm}
use Rattle.sj_acceptance.specs.Faults.{first_fault}
use Rattle.sj_acceptance.specs.LabelTests.{is_among, are_among}
use Rattle.sj_acceptance.specs.FirstItem.{arm_place}
use Rattle.sj_acceptance.specs.Tests.{deed_tests, after_deed, code_tests, after_code, branches_tests, after_branches, branching_tests}
use Rattle.sj_acceptance_laws.proofs.FaultLemmas.{all_pass, pass_both, first_passes, both_true}
use Rattle.sj_acceptance_laws.proofs.LabelLaws.{four_pass, its_arms_from, its_arms_to}
use Rattle.sj_acceptance_laws.proofs.SendLaws.{send_follows, send_passes, close_follows, close_passes, let_follows, let_passes}
use Rattle.sj_acceptance_laws.proofs.TakeLaws.{take_follows, take_passes, take_end_follows, take_end_passes}
use Rattle.sj_acceptance_laws.proofs.HandLaws.{select_follows, select_passes, delegate_follows, delegate_passes}
use Rattle.sj_acceptance_laws.proofs.OpenLaws.{opening_follows, opening_passes}
use Rattle.sj_acceptance_laws.proofs.LoopLaws.{inwhile_follows, inwhile_passes, outwhile_follows, outwhile_passes}
use Rattle.sj_acceptance_laws.proofs.RelayLaws.{relay_follows, relay_passes}
use Rattle.sj_acceptance_laws.proofs.IfLaws.{if_follows, if_passes}
use Rattle.sj_acceptance_laws.proofs.ArmLaws.{label_there, arm_start, choice_at, branching_passes, joins_all, one_and_joined}

mutual
  pub follows_code : (ps : List ProtocolAt) (parties : List ℕ) (c : Code) (env : EnvAt) → first_fault (code_tests ps parties env c) ≡ None → Follows ps parties c (env_of env) (env_of (after_code ps env c))
  follows_code ps parties no_stmt env h = refl
  follows_code ps parties (stmt_then (at line deed) c) env h =
      let p = all_pass (deed_tests ps parties line env deed) (code_tests ps parties (after_deed ps env deed) c) h in
      (env_of (after_deed ps env deed), follows_deed ps parties deed line env p.0, follows_code ps parties c (after_deed ps env deed) p.1)

  pub follows_deed : (ps : List ProtocolAt) (parties : List ℕ) (deed : DeedAt) (line : ℕ) (env : EnvAt) → first_fault (deed_tests ps parties line env deed) ≡ None → Does ps parties deed (env_of env) (env_of (after_deed ps env deed))
  follows_deed ps parties (send x e) line env h = send_follows ps parties line env x e h
  follows_deed ps parties (delegate x y) line env h = delegate_follows ps parties line env x y h
  follows_deed ps parties (take_value x n k) line env h = take_follows ps parties line env x n k h
  follows_deed ps parties (take_end x y p) line env h = take_end_follows ps parties line env x y p h
  follows_deed ps parties (outbranch x l) line env h = select_follows ps parties line env x l h
  follows_deed ps parties (inbranch x bs) line env h =
      let a = all_pass (branching_tests line env x bs ++ branches_tests ps parties env x bs) _ h in
      let b = all_pass (branching_tests line env x bs) (branches_tests ps parties env x bs) a.0 in
      let c = choice_at line x env bs (get env.ends x) refl b.0 in (
        c.0,
        c.1,
        c.2,
        its_arms_from c.0 bs c.3,
        map env_of (after_branches ps env x bs),
        follows_branches ps parties bs env x c.0 c.1 c.2 (four_pass c.0 (branch_labels bs) c.3).2 b.1,
        joins_all ps env x c.0 bs c.3 (first_passes 9 line _ [] a.1).0,
      )
  follows_deed ps parties (outwhile x e body) line env h = outwhile_follows ps parties line env x e body (λ v. follows_code ps parties body v) h
  follows_deed ps parties (inwhile x body) line env h = inwhile_follows ps parties line env x body (λ v. follows_code ps parties body v) h
  follows_deed ps parties (relay x y body) line env h = relay_follows ps parties line env x y body (λ v. follows_code ps parties body v) h
  follows_deed ps parties (if_else e f s) line env h = if_follows ps parties line env e f s (λ v. follows_code ps parties f v) (λ v. follows_code ps parties s v) h
  follows_deed ps parties (let_be n e) line env h = let_follows ps parties line env n e h
  follows_deed ps parties (close x) line env h = close_follows ps parties line env x h
  follows_deed ps parties (request x p b) line env h = opening_follows ps parties line env x p b h
  follows_deed ps parties (accept x p b) line env h = opening_follows ps parties line env x p b h

  follows_branches : (ps : List ProtocolAt) (parties : List ℕ) (bs : Branches) (env : EnvAt) (x : ℕ) (arms : Choices) (rest : Place) → get env.ends x ≡ Some (choice Into arms rest)
      → are_among (branch_labels bs) (labels_of arms) ≡ true → first_fault (branches_tests ps parties env x bs) ≡ None
      → EachArm ps parties x arms rest bs (env_of env) (map env_of (after_branches ps env x bs))
  follows_branches ps parties no_branch env x arms rest g w h = refl
  follows_branches ps parties (branch l c bs) env x arms rest g w h =
      let here = both_true (is_among l (labels_of arms)) (are_among (branch_labels bs) (labels_of arms)) w in
      let there = label_there l arms here.0 in
      let start = with_live env x (arm_place l (place_at env x)) in
      let last = after_code ps start c in
      let p = all_pass (code_tests ps parties start c) (branches_tests ps parties env x bs) h in (
        there.0,
        there.1,
        env_of last,
        subst (λ (v : Env). Follows ps parties c v (env_of last)) (arm_start env x l arms rest there.0 g there.1) (follows_code ps parties c start p.0),
        map env_of (after_branches ps env x bs),
        follows_branches ps parties bs env x arms rest g here.1 p.1,
        refl,
      )

mutual
  pub passes_code : (ps : List ProtocolAt) (parties : List ℕ) (c : Code) (env : EnvAt) (next : Env) → Follows ps parties c (env_of env) next → (first_fault (code_tests ps parties env c) ≡ None) × (next ≡ env_of (after_code ps env c))
  passes_code ps parties no_stmt env next d = (refl, sym d)
  passes_code ps parties (stmt_then (at line deed) c) env next d =
      let p = passes_deed ps parties deed line env d.0 d.1 in
      let q = passes_code ps parties c (after_deed ps env deed) next (subst (λ (v : Env). Follows ps parties c v next) p.1 d.2) in
      (pass_both (deed_tests ps parties line env deed) (code_tests ps parties (after_deed ps env deed) c) p.0 q.0, q.1)

  pub passes_deed : (ps : List ProtocolAt) (parties : List ℕ) (deed : DeedAt) (line : ℕ) (env : EnvAt) (next : Env) → Does ps parties deed (env_of env) next → (first_fault (deed_tests ps parties line env deed) ≡ None) × (next ≡ env_of (after_deed ps env deed))
  passes_deed ps parties (send x e) line env next d = send_passes ps parties line env x e next d
  passes_deed ps parties (delegate x y) line env next d = delegate_passes ps parties line env x y next d
  passes_deed ps parties (take_value x n k) line env next d = take_passes ps parties line env x n k next d
  passes_deed ps parties (take_end x y p) line env next d = take_end_passes ps parties line env x y p next d
  passes_deed ps parties (outbranch x l) line env next d = select_passes ps parties line env x l next d
  passes_deed ps parties (inbranch x bs) line env next d =
      let labelled = its_arms_to d.0 bs d.3 in
      let p = passes_branches ps parties bs env x d.0 d.1 d.2 d.4 d.5 in
      let j = one_and_joined d.0 bs d.4 next ps env x labelled p.1 d.6 in (
        pass_both (branching_tests line env x bs ++ branches_tests ps parties env x bs) _
            (pass_both (branching_tests line env x bs) (branches_tests ps parties env x bs) (branching_passes line x env bs d.0 d.1 d.2 labelled) p.0)
            (ap (λ b. cond b None (Some (9, line))) j.0),
        j.1,
      )
  passes_deed ps parties (outwhile x e body) line env next d = outwhile_passes ps parties line env x e body (λ v n. passes_code ps parties body v n) next d
  passes_deed ps parties (inwhile x body) line env next d = inwhile_passes ps parties line env x body (λ v n. passes_code ps parties body v n) next d
  passes_deed ps parties (relay x y body) line env next d = relay_passes ps parties line env x y body (λ v n. passes_code ps parties body v n) next d
  passes_deed ps parties (if_else e f s) line env next d = if_passes ps parties line env e f s (λ v n. passes_code ps parties f v n) (λ v n. passes_code ps parties s v n) next d
  passes_deed ps parties (let_be n e) line env next d = let_passes ps parties line env n e next d
  passes_deed ps parties (close x) line env next d = close_passes ps parties line env x next d
  passes_deed ps parties (request x p b) line env next d = opening_passes ps parties line env x p b next d
  passes_deed ps parties (accept x p b) line env next d = opening_passes ps parties line env x p b next d

  passes_branches : (ps : List ProtocolAt) (parties : List ℕ) (bs : Branches) (env : EnvAt) (x : ℕ) (arms : Choices) (rest : Place) → get env.ends x ≡ Some (choice Into arms rest)
      → (lasts : List Env) → EachArm ps parties x arms rest bs (env_of env) lasts → (first_fault (branches_tests ps parties env x bs) ≡ None) × (lasts ≡ map env_of (after_branches ps env x bs))
  passes_branches ps parties no_branch env x arms rest g lasts d = (refl, d)
  passes_branches ps parties (branch l c bs) env x arms rest g lasts d =
      let start = with_live env x (arm_place l (place_at env x)) in
      let p = passes_code ps parties c start d.2 (subst (λ (v : Env). Follows ps parties c v d.2) (sym (arm_start env x l arms rest d.0 g d.1)) d.3) in
      let q = passes_branches ps parties bs env x arms rest g d.4 d.5 in
      (pass_both (code_tests ps parties start c) (branches_tests ps parties env x bs) p.0 q.0, d.6 ∙ (λ i. p.1 i ∷ q.1 i))
