-- Choices whose labels are gone through side by side.
use Rattle.std.proofs.Common.{◌≡◌, ℕ, zero, suc, ◌+◌, ◌<◌, ◌≤◌, ◌==◌, nat_lt, ◌&&◌, Bool, true, false, cond, List, [], ◌∷◌, length, get_or, take, Some, is_some, inl, inr, ◌⊎◌, refl, ap, sym, ◌∙◌, subst, arith}
use Rattle.std.proofs.lemmas.Bool.{cases_Bool, eqb-true, ltb-true, ltb-false}
use Rattle.sj_lang.specs.declared.proto.Arm.{Arm}
use Rattle.sj_lang.specs.Place.{Place, Choices}
use Rattle.sj_lang.specs.After.{arm_count, arm_rest, at_label}
use Rattle.sj_lang.specs.Alike.{AlikeTo}
use Rattle.sj_lang.specs.View.{choices_of}
use Rattle.sj_lang.specs.MeetTests.{passes, each_label, meets, seen, arm_meets, arms_seen}
use Rattle.sj_lang.proofs.ArmLemmas.{arm_count-choices_of, arm_rest-choices_of}
use Rattle.sj_lang.proofs.MeetCodeLemmas.{and_false, arms_at}

-- the arms of the first n of these labels meet
abbrev pub MeetTo : Bool → Choices → Choices → ℕ → List Arm → Type 0
MeetTo t a b n labels = (k : ℕ) (d : Arm) → k < n → passes (arm_meets (arms_seen t a) (get_or labels k d).label) (at_label (get_or labels k d).label b) ≡ true

-- an arm is the first of its label, or there is one before it
pub first_or : {P : Type 0} (arms : List Arm) (i : ℕ) (d : Arm) (l : ℕ) → i < length arms → (get_or arms i d).label ≡ l
    → ((k : ℕ) → k < i → (get_or arms k d).label ≡ l → P) → (at_label l (choices_of arms) ≡ Some (get_or arms i d).rest) ⊎ P
first_or [] i d l h e before = absurd (omega arith)
first_or (a ∷ arms) zero d l h e before = inl (subst (λ m. at_label m (choices_of (a ∷ arms)) ≡ Some a.rest) e (grind (arith)))
first_or (a ∷ arms) (suc i) d l h e before =
    elim (cases_Bool (l == a.label)) [
      | inl same ↦ inr (before 0 (omega arith) (sym (eqb-true l a.label same)))
      | inr other ↦ elim (first_or arms i d l (omega arith) e (λ k below f. before (suc k) (omega arith) f)) [
        | inl found ↦ inl (ap (λ (b : Bool). cond b (Some a.rest) (at_label l (choices_of arms))) other ∙ found)
        | inr it ↦ inr it
      ]
    ]

-- none of the first n arms has the label
pub absent : (arms : List Arm) (n : ℕ) (d : Arm) (l k : ℕ) → is_some (at_label l (choices_of (take n arms))) ≡ false → k < n → k < length arms → (get_or arms k d).label ≡ l → ⊥
absent [] n d l k none below h e = omega arith
absent (a ∷ arms) zero d l k none below h e = omega arith
absent (a ∷ arms) (suc n) d l zero none below h e = grind (arith)
absent (a ∷ arms) (suc n) d l (suc k) none below h e = absent arms n d l k (grind (arith)) (omega arith) (omega arith) e

-- one of the first n arms has the label
pub present : {P : Type 0} (arms : List Arm) (n : ℕ) (d : Arm) (l : ℕ) → is_some (at_label l (choices_of (take n arms))) ≡ true → ((k : ℕ) → k < n → (get_or arms k d).label ≡ l → P) → P
present [] zero d l some before = absurd (cc)
present [] (suc n) d l some before = absurd (cc)
present (a ∷ arms) zero d l some before = absurd (cc)
present (a ∷ arms) (suc n) d l some before =
    elim (cases_Bool (l == a.label)) [
      | inl same ↦ before 0 (omega arith) (sym (eqb-true l a.label same))
      | inr other ↦ present arms n d l (sym (ap (λ (b : Bool). is_some (cond b (Some a.rest) (at_label l (choices_of (take n arms))))) other) ∙ some) (λ k below f. before (suc k) (omega arith) f)
    ]

-- one label fails, so all do; or none does
pub each_fails : (test : ℕ → Place → Bool) (arms : List Arm) (others : Choices) (i : ℕ) (d : Arm) → i < length arms
    → passes (test (get_or arms i d).label) (at_label (get_or arms i d).label others) ≡ false → each_label test (choices_of arms) others ≡ false
each_fails test [] others i d h e = absurd (omega arith)
each_fails test (a ∷ arms) others zero d h e = grind (arith)
each_fails test (a ∷ arms) others (suc i) d h e = and_false _ _ (each_fails test arms others i d (omega arith) e)

pub each_passes : (test : ℕ → Place → Bool) (arms : List Arm) (others : Choices) → ((k : ℕ) (d : Arm) → k < length arms → passes (test (get_or arms k d).label) (at_label (get_or arms k d).label others) ≡ true) → each_label test (choices_of arms) others ≡ true
each_passes test [] others all = refl
each_passes test (a ∷ arms) others all = ap (λ (b : Bool). b && each_label test (choices_of arms) others) (all 0 a (omega arith)) ∙ each_passes test arms others (λ k d below. all (suc k) d (omega arith))

-- which other value stands for none makes no difference
get_same : (arms : List Arm) (i : ℕ) (d e : Arm) → i < length arms → get_or arms i d ≡ get_or arms i e
get_same [] i d e h = absurd (omega arith)
get_same (a ∷ arms) zero d e h = refl
get_same (a ∷ arms) (suc i) d e h = get_same arms i d e (omega arith)

-- where an arm is known, or is the first of its label, its place is the one at the label, or
-- there is such a label before
pub place_known : {P : Type 0} (arms labels : List Arm) (v : Choices) (known i p l : ℕ) (d : Arm) → choices_of arms ≡ v → AlikeTo known arms labels → (get_or labels i d).label ≡ l
    → p < arm_count v → (i < known → Some p ≡ Some i) → (known ≤ i → at_label l v ≡ Some (arm_rest p v)) → ((k : ℕ) → k < i → (get_or labels k d).label ≡ l → P)
    → (at_label l v ≡ Some (get_or arms p d).rest) ⊎ P
place_known {P} arms labels v known i p l d view alike named below there found before =
    elim (cases_Bool (nat_lt i known)) [
      | inl less ↦ let it : p ≡ i = (let f : Some p ≡ Some i = there (omega (arith, ltb-true i known less)) in cc) in
          subst (λ w. (at_label l w ≡ Some (get_or arms p d).rest) ⊎ P) view
          (first_or arms p d l (omega (arith, alike.0, it, ltb-true i known less)) (subst (λ n. (get_or arms n d).label ≡ l) (sym it) (alike.1 i d (omega (arith, ltb-true i known less)) ∙ named))
          (λ k less' e. before k (omega (arith, it, less')) (sym (alike.1 k d (omega (arith, it, ltb-true i known less, less'))) ∙ e)))
      | inr more ↦ inl (found (omega (arith, ltb-false i known more)) ∙ ap (λ w. Some (arm_rest p w)) (sym view)
          ∙ ap (λ r. Some r) (arm_rest-choices_of arms p d (omega (arith, below, arm_count-choices_of arms, ap arm_count view))))
    ]

-- the same of equal lists
pub alike_by : {n : ℕ} {arms arms' labels labels' : List Arm} → arms ≡ arms' → labels ≡ labels' → AlikeTo n arms labels → AlikeTo n arms' labels'
alike_by {n} {arms} {arms'} {labels} {labels'} e f alike = subst (λ xs. AlikeTo n xs labels') e (subst (AlikeTo n arms) f alike)

-- so the test of the label is that of the two places, or there is such a label before
pub decided : {P : Type 0} (t : Bool) (a b : Choices) (l : ℕ) (p q : Place) (r : Bool) → (at_label l a ≡ Some p) ⊎ P → (at_label l b ≡ Some q) ⊎ P → r ≡ meets (seen t p) q
    → (r ≡ passes (arm_meets (arms_seen t a) l) (at_label l b)) ⊎ P
decided t a b l p q r (inl e) (inl f) g = inl (g ∙ arms_at t a b l p q e f)
decided t a b l p q r (inl e) (inr it) g = inr it
decided t a b l p q r (inr it) f g = inr it

-- one label more
pub meets_more : (t : Bool) (a b : Choices) (i : ℕ) (labels : List Arm) (d : Arm) → i < length labels → MeetTo t a b i labels
    → passes (arm_meets (arms_seen t a) (get_or labels i d).label) (at_label (get_or labels i d).label b) ≡ true → MeetTo t a b (i + 1) labels
meets_more t a b i labels d h so_far now k e below =
    elim (cases_Bool (nat_lt k i)) [
      | inl less ↦ so_far k e (omega (arith, ltb-true k i less))
      | inr more ↦ let it : k ≡ i = (omega (arith, ltb-false k i more, below)) in
          subst (λ n. passes (arm_meets (arms_seen t a) (get_or labels n e).label) (at_label (get_or labels n e).label b) ≡ true) (sym it)
          (subst (λ x. passes (arm_meets (arms_seen t a) x.label) (at_label x.label b) ≡ true) (get_same labels i d e h) now)
    ]

-- the test of a label, where the arms at it have been found on both sides
module _ (t : Bool) (a b : Choices) (as' bs labels : List Arm) (view_a : choices_of as' ≡ a) (view_b : choices_of bs ≡ b) (m n i p q : ℕ) (x y z : Arm)
    (alike_a : AlikeTo m as' labels) (alike_b : AlikeTo n bs labels) (x_at : x ≡ get_or labels i x) (y_at : y ≡ get_or as' p y) (z_at : z ≡ get_or bs q z)
    (below_a : p < arm_count a) (there_a : i < m → Some p ≡ Some i) (found_a : m ≤ i → at_label x.label a ≡ Some (arm_rest p a))
    (below_b : q < arm_count b) (there_b : i < n → Some q ≡ Some i) (found_b : n ≤ i → at_label x.label b ≡ Some (arm_rest q b))
    (r : Bool) (r_is : r ≡ meets (seen t y.rest) z.rest) where
  pub at_places : {P : Type 0} → ((k : ℕ) → k < i → (get_or labels k x).label ≡ x.label → P) → (r ≡ passes (arm_meets (arms_seen t a) x.label) (at_label x.label b)) ⊎ P
  at_places {P} before =
      decided t a b x.label y.rest z.rest r
      (subst (λ (w : Arm). (at_label x.label a ≡ Some w.rest) ⊎ P) (get_same as' p x y (omega (arith, below_a, arm_count-choices_of as', ap arm_count view_a)) ∙ sym y_at)
      (place_known as' labels a m i p x.label x view_a alike_a (sym (ap (λ (w : Arm). w.label) x_at)) below_a there_a found_a before))
      (subst (λ (w : Arm). (at_label x.label b ≡ Some w.rest) ⊎ P) (get_same bs q x z (omega (arith, below_b, arm_count-choices_of bs, ap arm_count view_b)) ∙ sym z_at)
      (place_known bs labels b n i q x.label x view_b alike_b (sym (ap (λ (w : Arm). w.label) x_at)) below_b there_b found_b before))
      r_is

-- one label fails, and so do all
pub label_fails : (t : Bool) (a b v : Choices) (labels : List Arm) (i : ℕ) (x : Arm) → choices_of labels ≡ v → i < length labels → x ≡ get_or labels i x
    → false ≡ passes (arm_meets (arms_seen t a) x.label) (at_label x.label b) → false ≡ each_label (arm_meets (arms_seen t a)) v b
label_fails t a b v labels i x view h x_at e =
    subst (λ w. false ≡ each_label (arm_meets (arms_seen t a)) w b) view
    (sym (each_fails (arm_meets (arms_seen t a)) labels b i x h (subst (λ (w : Arm). passes (arm_meets (arms_seen t a) w.label) (at_label w.label b) ≡ false) x_at (sym e))))
