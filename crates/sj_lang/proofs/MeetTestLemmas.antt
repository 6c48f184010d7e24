-- What the tests of meeting decide.
use Rattle.std.proofs.lemmas.Bool.{cases_Bool}
use Rattle.std.proofs.Common.{◌≡◌, IsTrue, ◌↔◌, ℕ, ◌==◌, ◌&&◌, Bool, true, false, cond, Option, Some, None, is_some, inl, inr, refl, ap, sym, subst, ◌∙◌}
use Rattle.std.specs.Bool.{Decides}
use Rattle.std.proofs.lemmas.Bool.Decides.{Decides-eqb, Decides-and, Decides-like}
use Rattle.sj_lang.specs.Place.{Place, Choices, done, message, choice, repeat, no_choice, arm}
use Rattle.sj_lang.specs.After.{at_label, is_same_way}
use Rattle.sj_lang.specs.Dual.{other_way, dual_of}
use Rattle.sj_lang.specs.SamePlace.{is_same_carried}
use Rattle.sj_lang.specs.Meet.{selecting, EachLabel, Meets, ArmMeets, StandsFor}
use Rattle.sj_lang.specs.MeetTests.{passes, each_label, meets, arm_meets, stands_for}
use Rattle.sj_lang.proofs.SameLemmas.{is_same_way-Decides, is_same_carried-Decides}

passing : (test : Place → Bool) (o : Option Place) → passes test o ≡ true → (q : Place) × (o ≡ Some q) × (test q ≡ true)
passing test None h = cc
passing test (Some q) h = (q, refl, h)

both : (a b : Bool) → a ≡ true → b ≡ true → (a && b) ≡ true
both true b e f = f
both false b e f = e

first_of : (a b : Bool) → (a && b) ≡ true → a ≡ true
first_of true b h = refl
first_of false b h = h

second_of : (a b : Bool) → (a && b) ≡ true → b ≡ true
second_of true b h = h
second_of false b h = cc

there_behind : (l m : ℕ) (p : Place) (arms : Choices) → is_some (at_label l arms) ≡ true → is_some (at_label l (arm m p arms)) ≡ true
there_behind l m p arms h =
    elim (cases_Bool (l == m)) [
      | inl same ↦ ap (λ (b : Bool). is_some (cond b (Some p) (at_label l arms))) same
      | inr other ↦ ap (λ (b : Bool). is_some (cond b (Some p) (at_label l arms))) other ∙ h
    ]

-- a test of arms by their labels, and what it decides
module _ (test : ℕ → Place → Bool) (M : ℕ → Place → Type 0) (decides : (l : ℕ) (q : Place) → Decides (test l q) (M l q)) where
  each_holds : (arms others : Choices) → each_label test arms others ≡ true → EachLabel M arms others
  each_holds no_choice others h l has = cc
  each_holds (arm m p arms) others h l has =
      elim (cases_Bool (l == m)) [
        | inl same ↦
            let r : (q : Place) × (at_label m others ≡ Some q) × (test m q ≡ true) = passing (test m) (at_label m others) (first_of (passes (test m) (at_label m others)) (each_label test arms others) h) in
            subst (λ (n : ℕ). (q : Place) × (at_label n others ≡ Some q) × M n q) (sym ((Decides-eqb l m).0 same)) (r.0, r.1, (decides m r.0).0 r.2)
        | inr other ↦
            each_holds arms others (second_of (passes (test m) (at_label m others)) (each_label test arms others) h) l
            (sym (ap (λ (b : Bool). is_some (cond b (Some p) (at_label l arms))) other) ∙ has)
      ]

  each_tested : (arms others : Choices) → EachLabel M arms others → each_label test arms others ≡ true
  each_tested no_choice others h = refl
  each_tested (arm m p arms) others h =
      let r : (q : Place) × (at_label m others ≡ Some q) × M m q = h m (ap (λ (b : Bool). is_some (cond b (Some p) (at_label m arms))) ((Decides-eqb m m).1 refl)) in
      both (passes (test m) (at_label m others)) (each_label test arms others) (ap (passes (test m)) r.1 ∙ (decides m r.0).1 r.2)
      (each_tested arms others (λ l has. h l (there_behind l m p arms has)))

  pub each_label-Decides : (arms others : Choices) → Decides (each_label test arms others) (EachLabel M arms others)
  each_label-Decides arms others = (each_holds arms others, each_tested arms others)

-- three tests and what they decide
three-Decides : (a b c : Bool) {A B C : Type 0} → Decides a A → Decides b B → Decides c C → Decides (a && b && c) (A × B × C)
three-Decides a b c {A} {B} {C} da db dc =
    Decides-like (a && b && c) (λ (t : (A × B) × C). (t.0.0, t.0.1, t.1)) (λ t. ((t.0, t.1), t.2)) (Decides-and (a && b) c (Decides-and a b da db) dc)

arm_same : (p q : Place) (l m : ℕ) (arms : Choices) → (l == m) ≡ true → Decides (meets p q) (Meets p q) → ArmMeets (arm m p arms) l q → meets p q ≡ true
arm_same p q l m arms same d (inl h) = d.1 h.1
arm_same p q l m arms same d (inr h) = let no_way : true ≡ false = sym same ∙ h.0 in cc

arm_other : (p q : Place) (l m : ℕ) (arms : Choices) → (l == m) ≡ false → Decides (arm_meets arms l q) (ArmMeets arms l q) → ArmMeets (arm m p arms) l q → arm_meets arms l q ≡ true
arm_other p q l m arms other d (inl h) = let no_way : true ≡ false = sym h.0 ∙ other in cc
arm_other p q l m arms other d (inr h) = d.1 h.1

mutual
  pub meets-Decides : (p q : Place) → Decides (meets p q) (Meets p q)
  meets-Decides done done = (λ _. tt, λ _. refl)
  meets-Decides (message w k rest) (message v l rest') =
      three-Decides (is_same_way v (other_way w)) (is_same_carried k l) (meets rest rest') (is_same_way-Decides v (other_way w)) (is_same_carried-Decides k l) (meets-Decides rest rest')
  meets-Decides (choice w arms rest) (choice v arms' rest') =
      three-Decides (is_same_way v (other_way w)) (each_label (arm_meets arms) (selecting w arms arms') arms') (meets rest rest') (is_same_way-Decides v (other_way w))
      (each_label-Decides (arm_meets arms) (ArmMeets arms) (arm_meets-Decides arms) (selecting w arms arms') arms') (meets-Decides rest rest')
  meets-Decides (repeat w body rest) (repeat v body' rest') =
      three-Decides (is_same_way v (other_way w)) (meets body body') (meets rest rest') (is_same_way-Decides v (other_way w)) (meets-Decides body body') (meets-Decides rest rest')
  meets-Decides _ _ = (λ e. absurd (cc), λ h. absurd h)

  arm_meets-Decides : (arms : Choices) (l : ℕ) (q : Place) → Decides (arm_meets arms l q) (ArmMeets arms l q)
  arm_meets-Decides no_choice l q = (λ e. absurd (cc), λ h. absurd h)
  arm_meets-Decides (arm m p arms) l q =
      elim (cases_Bool (l == m)) [
        | inl same ↦
            let is : arm_meets (arm m p arms) l q ≡ meets p q = ap (λ (b : Bool). cond b (meets p q) (arm_meets arms l q)) same in
            (λ t. inl (same, (meets-Decides p q).0 (sym is ∙ t)), λ h. is ∙ arm_same p q l m arms same (meets-Decides p q) h)
        | inr other ↦
            let is : arm_meets (arm m p arms) l q ≡ arm_meets arms l q = ap (λ (b : Bool). cond b (meets p q) (arm_meets arms l q)) other in
            (λ t. inr (other, (arm_meets-Decides arms l q).0 (sym is ∙ t)), λ h. is ∙ arm_other p q l m arms other (arm_meets-Decides arms l q) h)
      ]

pub stands_for-Decides : (t s : Place) → Decides (stands_for t s) (StandsFor t s)
stands_for-Decides t s = meets-Decides (dual_of t) s

-- what is the test decides what the test does
pub as_test : (r : Bool) (p q : Place) → r ≡ meets p q → IsTrue r ↔ Meets p q
as_test r p q e = (λ t. (meets-Decides p q).0 (sym e ∙ t), λ h. e ∙ (meets-Decides p q).1 h)
