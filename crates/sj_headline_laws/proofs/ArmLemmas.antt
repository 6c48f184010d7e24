-- The arm that a label leads to.
use Rattle.std.proofs.Common.{◌≡◌, ℕ, zero, suc, ◌<◌, ◌==◌, Bool, true, false, cond, List, ◌∷◌, length, slice_get, slice_index_or, Contains, Option, Some, None, option_map, ap, sym, ◌∙◌, arith, subst, inl, inr}
use Rattle.std.proofs.lemmas.Bool.{cases_Bool, eqb-true, eq-eqb}
use Rattle.sj_base.specs.declared.Msg.TheVariants as msgs
use Rattle.sj_lang.specs.Place.{Place, Choices, no_choice, arm}
use Rattle.sj_lang.specs.After.{followed_by, at_label}
use Rattle.sj_lang.specs.Code.{Code, Branches, no_branch, branch}
use Rattle.sj_lang.specs.FileAt.{ProtocolAt}
use Rattle.sj_semantics.specs.Steps.{arm_named}
use Rattle.sj_semantics.specs.Fitting.{names_arm}
use Rattle.sj_acceptance.specs.Environment.{Env, at_place, IsCommon}
use Rattle.sj_acceptance.specs.Labels.{labels_of, branch_labels}
use Rattle.sj_acceptance.specs.Follows.{Follows, EachArm}
use Rattle.sj_headline_laws.proofs.KnownLemmas.{Forgets}

pub at_label_contained : (l : ℕ) (choices : Choices) (p : Place) → at_label l choices ≡ Some p → Contains (labels_of choices) l
at_label_contained l no_choice p h = cc
at_label_contained l (arm m q arms) p h =
    elim (cases_Bool (l == m)) [
      | inl hit ↦ (0, omega arith, sym (eqb-true l m hit))
      | inr miss ↦
          let later : at_label l arms ≡ Some p = ap (λ (t : Bool). cond t (Some q) (at_label l arms)) (sym miss) ∙ h in
          let c = at_label_contained l arms p later in
          (suc c.0, omega (arith, c.1), c.2)
    ]

-- the arm of that label, and where its code leads
pub record ArmFound (ps : List ProtocolAt) (parties : List ℕ) (x : ℕ) (choices : Choices) (rest : Place) (arms : Branches) (env : Env) (lasts : List Env) (l : ℕ) : Type 0 where
  pub named_it : names_arm arms (msgs.Label l) ≡ true
  pub code : Code
  pub it_is : arm_named arms l ≡ Some code
  pub place : Place
  pub labelled : at_label l choices ≡ Some place
  pub last : Env
  pub follows : Follows ps parties code (at_place env x (followed_by place rest)) last
  pub number : ℕ
  pub among : slice_get lasts number ≡ Some last

module _ (ps : List ProtocolAt) (parties : List ℕ) (x : ℕ) (choices : Choices) (rest : Place) (env : Env) (l : ℕ) where
  pub arm_here : (m : ℕ) (code : Code) (arms : Branches) (lasts : List Env) → EachArm ps parties x choices rest (branch m code arms) env lasts → m == l ≡ true → ArmFound ps parties x choices rest (branch m code arms) env lasts l
  arm_here m code arms lasts each hit = record {
    named_it = ap (λ (t : Bool). cond t true (names_arm arms (msgs.Label l))) hit;
    code = code;
    it_is = ap (λ (t : Bool). cond t (Some code) (arm_named arms l)) hit;
    place = each.0;
    labelled = subst (λ (t : ℕ). at_label t choices ≡ Some each.0) (eqb-true m l hit) each.1;
    last = each.2;
    follows = each.3;
    number = 0;
    among = ap (λ t. slice_get t 0) each.6;
  }

  pub arm_further : (m : ℕ) (code : Code) (arms : Branches) (lasts others : List Env) (last : Env) → lasts ≡ last ∷ others → ArmFound ps parties x choices rest arms env others l → m == l ≡ false → ArmFound ps parties x choices rest (branch m code arms) env lasts l
  arm_further m code arms lasts others last e f miss = record {
    named_it = ap (λ (t : Bool). cond t true (names_arm arms (msgs.Label l))) miss ∙ f.named_it;
    code = f.code;
    it_is = ap (λ (t : Bool). cond t (Some code) (arm_named arms l)) miss ∙ f.it_is;
    place = f.place;
    labelled = f.labelled;
    last = f.last;
    follows = f.follows;
    number = suc f.number;
    among = ap (λ t. slice_get t (suc f.number)) e ∙ f.among;
  }

  pub arm_found : (arms : Branches) (lasts : List Env) (k : ℕ) → EachArm ps parties x choices rest arms env lasts → k < length (branch_labels arms) → slice_index_or (branch_labels arms) k l ≡ l → ArmFound ps parties x choices rest arms env lasts l
  arm_found no_branch lasts k each lt at_k = absurd (omega arith)
  arm_found (branch m code arms) lasts zero each lt at_k = arm_here m code arms lasts each (eq-eqb m l at_k)
  arm_found (branch m code arms) lasts (suc k) each lt at_k =
      elim (cases_Bool (m == l)) [
        | inl hit ↦ arm_here m code arms lasts each hit
        | inr miss ↦ arm_further m code arms lasts each.4 each.2 each.6 (arm_found arms each.4 k each.5 (omega arith) at_k) miss
      ]

pub common_forgets : (lasts : List Env) (next last : Env) (k : ℕ) → IsCommon lasts next → slice_get lasts k ≡ Some last → Forgets last next
common_forgets lasts next last k c h = record { places = c.ends k last h; kinds = λ n kind e. (c.kinds n kind).0 e k last h }

-- the arm that a label leads to
pub record ArmTaken (choices : Choices) (rest : Place) (l : ℕ) (next : Place) : Type 0 where
  pub place : Place
  pub labelled : at_label l choices ≡ Some place
  pub goes_on : followed_by place rest ≡ next

pub arm_taken_at : (choices : Choices) (rest : Place) (l : ℕ) (next : Place) (o : Option Place) → at_label l choices ≡ o → option_map (λ s. followed_by s rest) o ≡ Some next → ArmTaken choices rest l next
arm_taken_at choices rest l next None e h = cc
arm_taken_at choices rest l next (Some p) e h = record { place = p; labelled = e; goes_on = cc }
