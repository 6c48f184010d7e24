-- Protocols that meet: in both orders, with their duals, and past an end that stands for another.
use Rattle.std.proofs.lemmas.Bool.{cases_Bool}
use Rattle.std.proofs.Common.{◌≡◌, ℕ, ◌==◌, Bool, true, cond, Option, Some, None, is_some, option_map, inl, inr, refl, ap, sym, subst, ◌∙◌}
use Rattle.sj_lang.specs.declared.proto.Way.{Way}
use Rattle.sj_lang.specs.declared.proto.Way.TheVariants.{Out, Into}
use Rattle.sj_lang.specs.Place.{Place, Choices, done, message, choice, repeat, no_choice, arm}
use Rattle.sj_lang.specs.After.{at_label, followed_by}
use Rattle.sj_lang.specs.Dual.{other_way, dual_of, dual_choices}
use Rattle.sj_lang.specs.Meet.{selecting, EachLabel, Meets, ArmMeets, StandsFor}
use Rattle.sj_lang.proofs.DualLemmas.{other_way-other_way}

-- ---- arms by their labels

pub some_of : (o : Option Place) → is_some o ≡ true → (p : Place) × (o ≡ Some p)
some_of None h = cc
some_of (Some p) h = (p, refl)

pub is_there : (o : Option Place) (p : Place) → o ≡ Some p → is_some o ≡ true
is_there o p e = ap is_some e

-- the arm of a label that meets a place is there
pub arm_there : (arms : Choices) (l : ℕ) (q : Place) → ArmMeets arms l q → (p : Place) × (at_label l arms ≡ Some p) × Meets p q
arm_there no_choice l q h = absurd h
arm_there (arm m p arms) l q (inl h) = (p, ap (λ (b : Bool). cond b (Some p) (at_label l arms)) h.0, h.1)
arm_there (arm m p arms) l q (inr h) =
    let r : (a : Place) × (at_label l arms ≡ Some a) × Meets a q = arm_there arms l q h.1 in
    (r.0, ap (λ (b : Bool). cond b (Some p) (at_label l arms)) h.0 ∙ r.1, r.2)

pub arm_that_meets : (arms : Choices) (l : ℕ) (p q : Place) → at_label l arms ≡ Some p → Meets p q → ArmMeets arms l q
arm_that_meets no_choice l p q e h = cc
arm_that_meets (arm m a arms) l p q e h =
    elim (cases_Bool (l == m)) [
      | inl same ↦ let it : a ≡ p = (let f : Some a ≡ Some p = sym (ap (λ (b : Bool). cond b (Some a) (at_label l arms)) same) ∙ e in cc) in
          inl (same, subst (λ (t : Place). Meets t q) (sym it) h)
      | inr other ↦ inr (other, arm_that_meets arms l p q (sym (ap (λ (b : Bool). cond b (Some a) (at_label l arms)) other) ∙ e) h)
    ]

-- ---- in both orders

labels_back : (w : Way) (arms arms' : Choices) → ((l : ℕ) (q : Place) → ArmMeets arms l q → (p : Place) × (at_label l arms ≡ Some p) × Meets q p)
    → EachLabel (ArmMeets arms) (selecting w arms arms') arms' → EachLabel (ArmMeets arms') (selecting (other_way w) arms' arms) arms
labels_back Out arms arms' back h l has =
    let r : (q : Place) × (at_label l arms' ≡ Some q) × ArmMeets arms l q = h l has in
    let s : (p : Place) × (at_label l arms ≡ Some p) × Meets r.0 p = back l r.0 r.2 in
    (s.0, s.1, arm_that_meets arms' l r.0 s.0 r.1 s.2)
labels_back Into arms arms' back h l has =
    let r : (q : Place) × (at_label l arms' ≡ Some q) × ArmMeets arms l q = h l has in
    let s : (p : Place) × (at_label l arms ≡ Some p) × Meets r.0 p = back l r.0 r.2 in
    (s.0, s.1, arm_that_meets arms' l r.0 s.0 r.1 s.2)

way_back : (w v : Way) → v ≡ other_way w → w ≡ other_way v
way_back w v e = sym (other_way-other_way w) ∙ ap other_way (sym e)

mutual
  pub meets_back : (p q : Place) → Meets p q → Meets q p
  meets_back done done h = tt
  meets_back (message w k rest) (message v l rest') h = (way_back w v h.0, sym h.1, meets_back rest rest' h.2)
  meets_back (choice w arms rest) (choice v arms' rest') h =
      (way_back w v h.0, subst (λ (t : Way). EachLabel (ArmMeets arms') (selecting t arms' arms) arms) (sym h.0) (labels_back w arms arms' (arm_back arms) h.1), meets_back rest rest' h.2)
  meets_back (repeat w body rest) (repeat v body' rest') h = (way_back w v h.0, meets_back body body' h.1, meets_back rest rest' h.2)
  meets_back _ _ h = absurd h

  arm_back : (arms : Choices) (l : ℕ) (q : Place) → ArmMeets arms l q → (p : Place) × (at_label l arms ≡ Some p) × Meets q p
  arm_back no_choice l q h = absurd h
  arm_back (arm m p arms) l q (inl h) = (p, ap (λ (b : Bool). cond b (Some p) (at_label l arms)) h.0, meets_back p q h.1)
  arm_back (arm m p arms) l q (inr h) =
      let r : (a : Place) × (at_label l arms ≡ Some a) × Meets q a = arm_back arms l q h.1 in
      (r.0, ap (λ (b : Bool). cond b (Some p) (at_label l arms)) h.0 ∙ r.1, r.2)

-- ---- with the dual

pub at_label-dual : (l : ℕ) (arms : Choices) → at_label l (dual_choices arms) ≡ option_map dual_of (at_label l arms)
at_label-dual l no_choice = refl
at_label-dual l (arm m p arms) =
    elim (cases_Bool (l == m)) [
      | inl same ↦ ap (λ (b : Bool). cond b (Some (dual_of p)) (at_label l (dual_choices arms))) same ∙ sym (ap (λ (b : Bool). option_map dual_of (cond b (Some p) (at_label l arms))) same)
      | inr other ↦ ap (λ (b : Bool). cond b (Some (dual_of p)) (at_label l (dual_choices arms))) other ∙ at_label-dual l arms ∙ sym (ap (λ (b : Bool). option_map dual_of (cond b (Some p) (at_label l arms))) other)
    ]

there_by_map : (o : Option Place) → is_some (option_map dual_of o) ≡ true → is_some o ≡ true
there_by_map None h = h
there_by_map (Some p) h = refl

-- a label of the dual is a label of the choice
label_of_dual : (l : ℕ) (arms : Choices) → is_some (at_label l (dual_choices arms)) ≡ true → is_some (at_label l arms) ≡ true
label_of_dual l arms h = there_by_map (at_label l arms) (sym (ap is_some (at_label-dual l arms)) ∙ h)

dual_there : (l : ℕ) (arms : Choices) (p : Place) → at_label l arms ≡ Some p → at_label l (dual_choices arms) ≡ Some (dual_of p)
dual_there l arms p e = at_label-dual l arms ∙ ap (option_map dual_of) e

labels_dual : (arms : Choices) (l : ℕ) → ((p : Place) → at_label l arms ≡ Some p → ArmMeets arms l (dual_of p)) → is_some (at_label l arms) ≡ true
    → (q : Place) × (at_label l (dual_choices arms) ≡ Some q) × ArmMeets arms l q
labels_dual arms l to has =
    let r : (p : Place) × (at_label l arms ≡ Some p) = some_of (at_label l arms) has in
    (dual_of r.0, dual_there l arms r.0 r.1, to r.0 r.1)

each_label_dual : (w : Way) (arms : Choices) → ((l : ℕ) (p : Place) → at_label l arms ≡ Some p → ArmMeets arms l (dual_of p)) → EachLabel (ArmMeets arms) (selecting w arms (dual_choices arms)) (dual_choices arms)
each_label_dual Out arms to l has = labels_dual arms l (to l) has
each_label_dual Into arms to l has = labels_dual arms l (to l) (label_of_dual l arms has)

mutual
  pub meets_dual : (p : Place) → Meets p (dual_of p)
  meets_dual done = tt
  meets_dual (message w k rest) = (refl, refl, meets_dual rest)
  meets_dual (choice w arms rest) = (refl, each_label_dual w arms (arm_dual arms), meets_dual rest)
  meets_dual (repeat w body rest) = (refl, meets_dual body, meets_dual rest)

  arm_dual : (arms : Choices) (l : ℕ) (p : Place) → at_label l arms ≡ Some p → ArmMeets arms l (dual_of p)
  arm_dual no_choice l p e = cc
  arm_dual (arm m a arms) l p e =
      elim (cases_Bool (l == m)) [
        | inl same ↦ let it : a ≡ p = (let f : Some a ≡ Some p = sym (ap (λ (b : Bool). cond b (Some a) (at_label l arms)) same) ∙ e in cc) in
            inl (same, subst (λ (t : Place). Meets a (dual_of t)) it (meets_dual a))
        | inr other ↦ inr (other, arm_dual arms l p (sym (ap (λ (b : Bool). cond b (Some a) (at_label l arms)) other) ∙ e))
      ]

pub stands_for_itself : (p : Place) → StandsFor p p
stands_for_itself p = meets_back p (dual_of p) (meets_dual p)

-- ---- past an end that stands for another

-- what is at the label in all three
joined_at : (arms arms' arms'' : Choices) (l : ℕ) (q s : Place) → ((r t : Place) → ArmMeets arms l r → Meets (dual_of r) t → ArmMeets arms l t)
    → at_label l arms' ≡ Some q → ArmMeets arms l q → at_label l arms'' ≡ Some s → ArmMeets (dual_choices arms') l s
    → (t : Place) × (at_label l arms'' ≡ Some t) × ArmMeets arms l t
joined_at arms arms' arms'' l q s through at_q meets_q at_s meets_s =
    let r : (d : Place) × (at_label l (dual_choices arms') ≡ Some d) × Meets d s = arm_there (dual_choices arms') l s meets_s in
    let it : r.0 ≡ dual_of q = (let f : Some r.0 ≡ Some (dual_of q) = sym r.1 ∙ dual_there l arms' q at_q in cc) in
    (s, at_s, through q s meets_q (subst (λ (t : Place). Meets t s) it r.2))

labels_through : (w : Way) (arms arms' arms'' : Choices) → ((l : ℕ) (r t : Place) → ArmMeets arms l r → Meets (dual_of r) t → ArmMeets arms l t)
    → EachLabel (ArmMeets arms) (selecting w arms arms') arms' → EachLabel (ArmMeets (dual_choices arms')) (selecting w (dual_choices arms') arms'') arms''
    → EachLabel (ArmMeets arms) (selecting w arms arms'') arms''
labels_through Out arms arms' arms'' through h j l has =
    let r : (q : Place) × (at_label l arms' ≡ Some q) × ArmMeets arms l q = h l has in
    let s : (t : Place) × (at_label l arms'' ≡ Some t) × ArmMeets (dual_choices arms') l t = j l (is_there (at_label l (dual_choices arms')) (dual_of r.0) (dual_there l arms' r.0 r.1)) in
    joined_at arms arms' arms'' l r.0 s.0 (through l) r.1 r.2 s.1 s.2
labels_through Into arms arms' arms'' through h j l has =
    let s : (t : Place) × (at_label l arms'' ≡ Some t) × ArmMeets (dual_choices arms') l t = j l has in
    let d : (p : Place) × (at_label l (dual_choices arms') ≡ Some p) × Meets p s.0 = arm_there (dual_choices arms') l s.0 s.2 in
    let r : (q : Place) × (at_label l arms' ≡ Some q) × ArmMeets arms l q = h l (label_of_dual l arms' (is_there (at_label l (dual_choices arms')) d.0 d.1)) in
    joined_at arms arms' arms'' l r.0 s.0 (through l) r.1 r.2 s.1 s.2

other_again : (w v : Way) → v ≡ other_way w → other_way v ≡ w
other_again w v e = ap other_way e ∙ other_way-other_way w

mutual
  pub meets_through : (p t s : Place) → Meets p t → Meets (dual_of t) s → Meets p s
  meets_through done done s h j = j
  meets_through (message w k rest) (message v l rest') (message u m rest'') h j =
      (j.0 ∙ ap other_way (other_again w v h.0), h.1 ∙ j.1, meets_through rest rest' rest'' h.2 j.2)
  meets_through (choice w arms rest) (choice v arms' rest') (choice u arms'' rest'') h j = (
    j.0 ∙ ap other_way (other_again w v h.0),
    labels_through w arms arms' arms'' (arm_through arms) h.1
        (subst (λ (t : Way). EachLabel (ArmMeets (dual_choices arms')) (selecting t (dual_choices arms') arms'') arms'') (other_again w v h.0) j.1),
    meets_through rest rest' rest'' h.2 j.2,
  )
  meets_through (repeat w body rest) (repeat v body' rest') (repeat u body'' rest'') h j =
      (j.0 ∙ ap other_way (other_again w v h.0), meets_through body body' body'' h.1 j.1, meets_through rest rest' rest'' h.2 j.2)
  meets_through (message w k rest) (message v l rest') _ h j = absurd j
  meets_through (choice w arms rest) (choice v arms' rest') _ h j = absurd j
  meets_through (repeat w body rest) (repeat v body' rest') _ h j = absurd j
  meets_through _ _ s h j = absurd h

  arm_through : (arms : Choices) (l : ℕ) (r t : Place) → ArmMeets arms l r → Meets (dual_of r) t → ArmMeets arms l t
  arm_through no_choice l r t h j = absurd h
  arm_through (arm m p arms) l r t (inl h) j = inl (h.0, meets_through p r t h.1 j)
  arm_through (arm m p arms) l r t (inr h) j = inr (h.0, arm_through arms l r t h.1 j)

-- an end that stands for one that stands for a third stands for the third
pub stands_for_through : (p q s : Place) → StandsFor p q → StandsFor q s → StandsFor p s
stands_for_through p q s h j = meets_through (dual_of p) q s h j

-- ---- one place and then another

pub meets_followed : (p q r s : Place) → Meets p q → Meets r s → Meets (followed_by p r) (followed_by q s)
meets_followed done done r s h j = j
meets_followed (message w k rest) (message v l rest') r s h j = (h.0, h.1, meets_followed rest rest' r s h.2 j)
meets_followed (choice w arms rest) (choice v arms' rest') r s h j = (h.0, h.1, meets_followed rest rest' r s h.2 j)
meets_followed (repeat w body rest) (repeat v body' rest') r s h j = (h.0, h.1, meets_followed rest rest' r s h.2 j)
meets_followed _ _ r s h j = absurd h
