-- What stands before and after the arms of an `inbranch`.
use Rattle.std.proofs.Common.{◌≡◌, ℕ, List, [], ◌∷◌, ◌==◌, ◌||◌, Option, Some, None, Bool, true, false, cond, is_some, map, unwrap_or, refl, ap, sym, subst, ◌∙◌}
use Rattle.std.specs.FinMap.{get}
use Rattle.std.proofs.lemmas.Bool.Decides.{Decides-eqb}
use Rattle.sj_lang.specs.declared.proto.Way.TheVariants.{Out, Into}
use Rattle.sj_lang.specs.Place.{Place, Choices, done, message, choice, repeat, no_choice, arm}
use Rattle.sj_lang.specs.After.{followed_by, at_label}
use Rattle.sj_lang.specs.Code.{Branches, no_branch, branch}
use Rattle.sj_lang.specs.FileAt.{ProtocolAt}
use Rattle.sj_acceptance.specs.Environment.{Env, at_place, IsCommon}
use Rattle.sj_acceptance.specs.EnvAt.{EnvAt, env_of, with_live, place_at}
use Rattle.sj_acceptance.specs.Labels.{labels_of, branch_labels}
use Rattle.sj_acceptance.specs.Faults.{Test, first_fault}
use Rattle.sj_acceptance.specs.LabelTests.{is_among, are_labels_of}
use Rattle.sj_acceptance.specs.FirstItem.{is_choice, choices, arm_place}
use Rattle.sj_acceptance.specs.Arms.{common_env, is_one}
use Rattle.sj_acceptance.specs.Tests.{after_branches, branching_tests}
use Rattle.sj_acceptance_laws.proofs.FaultLemmas.{first_passes}
use Rattle.sj_acceptance_laws.proofs.SeenLemmas.{seen-moved}
use Rattle.sj_acceptance_laws.proofs.JoinLaws.{joins, joined-is}

-- a label of the choice has its arm
pub label_there : (l : ℕ) (arms : Choices) → is_among l (labels_of arms) ≡ true → (p : Place) × (at_label l arms ≡ Some p)
label_there l no_choice h = absurd (cc)
label_there l (arm m p arms) h =
    elim (l == m) as (λ b. (l == m) ≡ b → (q : Place) × (cond b (Some p) (at_label l arms) ≡ Some q)) [
      | true ↦ λ e. (p, refl)
      | false ↦ λ e. label_there l arms (other (m == l) e h)
    ] refl
  where
    other : (b : Bool) → (l == m) ≡ false → ((m == l) || is_among l (labels_of arms)) ≡ true → is_among l (labels_of arms) ≡ true
    other b e g = elim (m == l) as (λ c. (m == l) ≡ c → (c || is_among l (labels_of arms)) ≡ true → is_among l (labels_of arms) ≡ true) [
      | true ↦ λ f t. let back : (l == m) ≡ true = (Decides-eqb l m).1 (sym ((Decides-eqb m l).0 f)) in absurd (cc)
      | false ↦ λ f t. t
    ] refl g

-- where the end stands at a choice, each arm begins at its place
pub arm_start : (env : EnvAt) (x l : ℕ) (arms : Choices) (rest p : Place) → get env.ends x ≡ Some (choice Into arms rest) → at_label l arms ≡ Some p
    → env_of (with_live env x (arm_place l (place_at env x))) ≡ at_place (env_of env) x (followed_by p rest)
arm_start env x l arms rest p g e =
    ap (λ (o : Option Place). env_of (with_live env x (arm_place l (unwrap_or o done)))) g ∙ ap (λ (o : Option Place). env_of (with_live env x (followed_by (unwrap_or o done) rest))) e
    ∙ seen-moved env x (followed_by p rest)

abbrev branching_at : ℕ → ℕ → EnvAt → Branches → Option Place → List Test
branching_at line x env bs o = (5, line, is_some o) ∷ (6, line, is_choice Into (unwrap_or o done)) ∷ (14, line, are_labels_of (choices (unwrap_or o done)) (branch_labels bs)) ∷ []

pub choice_at : (line : ℕ) (x : ℕ) (env : EnvAt) (bs : Branches) (o : Option Place) → get env.ends x ≡ o → first_fault (branching_at line x env bs o) ≡ None
    → (arms : Choices) × (rest : Place) × (get env.ends x ≡ Some (choice Into arms rest)) × (are_labels_of arms (branch_labels bs) ≡ true)
choice_at line x env bs None g h = absurd (cc)
choice_at line x env bs (Some done) g h = absurd (cc)
choice_at line x env bs (Some (message w c rest)) g h = absurd (cc)
choice_at line x env bs (Some (repeat w c rest)) g h = absurd (cc)
choice_at line x env bs (Some (choice Out arms rest)) g h = absurd (cc)
choice_at line x env bs (Some (choice Into arms rest)) g h = (arms, rest, g, (first_passes 14 line (are_labels_of arms (branch_labels bs)) [] h).0)

pub branching_passes : (line : ℕ) (x : ℕ) (env : EnvAt) (bs : Branches) (arms : Choices) (rest : Place) → get env.ends x ≡ Some (choice Into arms rest) → are_labels_of arms (branch_labels bs) ≡ true
    → first_fault (branching_tests line env x bs) ≡ None
branching_passes line x env bs arms rest g h = ap (λ o. first_fault (branching_at line x env bs o)) g ∙ ap (λ b. cond b None (Some (14, line))) h

-- there is an arm, so there is what the arms leave together
pub joins_all : (ps : List ProtocolAt) (env : EnvAt) (x : ℕ) (arms : Choices) (bs : Branches) → are_labels_of arms (branch_labels bs) ≡ true → is_one (after_branches ps env x bs) ≡ true
    → IsCommon (map env_of (after_branches ps env x bs)) (env_of (common_env (after_branches ps env x bs)))
joins_all ps env x arms no_branch h k = absurd (cc)
joins_all ps env x arms (branch l c bs) h k = joins _ (after_branches ps env x bs) k

pub one_and_joined : (arms : Choices) (bs : Branches) (lasts : List Env) (next : Env) (ps : List ProtocolAt) (env : EnvAt) (x : ℕ) → are_labels_of arms (branch_labels bs) ≡ true
    → lasts ≡ map env_of (after_branches ps env x bs) → IsCommon lasts next → (is_one (after_branches ps env x bs) ≡ true) × (next ≡ env_of (common_env (after_branches ps env x bs)))
one_and_joined arms no_branch lasts next ps env x h e j = absurd (cc)
one_and_joined arms (branch l c bs) lasts next ps env x h e j = joined-is _ (after_branches ps env x bs) next (subst (λ (es : List Env). IsCommon es next) e j)
