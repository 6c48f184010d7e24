-- The tests of meeting, over lists of items and over arms by their numbers.
use Rattle.std.proofs.lemmas.Bool.{cases_Bool}
use Rattle.std.proofs.lemmas.List.{at_drop_more}
use Rattle.std.proofs.Common.{◌≡◌, ◌↔◌, ℕ, suc, ◌+◌, ◌<◌, ◌==◌, ◌&&◌, Bool, true, false, cond, IsTrue, List, [], ◌∷◌, length, get_or, drop, Option, Some, None, option_map, inl, inr, refl, ap, sym, ◌∙◌}
use Rattle.sj_lang.specs.declared.proto.Kind.{Kind}
use Rattle.sj_lang.specs.declared.proto.Item.{Item}
use Rattle.sj_lang.specs.declared.proto.Item.TheVariants.{Send, Recv, Select, Branch, OutLoop, InLoop}
use Rattle.sj_lang.specs.Place.{Place, Choices, done, no_choice, arm}
use Rattle.sj_lang.specs.View.{carried_of, place_of, followed}
use Rattle.sj_lang.specs.After.{at_label}
use Rattle.sj_lang.specs.Dual.{dual_choices, dual_item}
use Rattle.sj_lang.specs.SamePlace.{is_same_carried}
use Rattle.sj_lang.specs.MeetTests.{passes, each_label, meets, arm_meets, seen, arms_seen}
use Rattle.sj_lang.proofs.DualLemmas.{dual_of-followed}
use Rattle.sj_lang.proofs.MeetLemmas.{at_label-dual}
use Rattle.sj_lang.proofs.SameLemmas.{is_same_carried-from}

-- ---- lists of items

again : (a m : Bool) → (a && m) ≡ ((a && true) && m)
again true m = refl
again false m = refl

pair : (i j : Item) (p q : Place) → meets (followed i p) (followed j q) ≡ (meets (followed i done) (followed j done) && meets p q)
pair (Send k) (Recv l) p q = again (is_same_carried (carried_of k) (carried_of l)) (meets p q)
pair (Recv k) (Send l) p q = again (is_same_carried (carried_of k) (carried_of l)) (meets p q)
pair (Select x) (Branch y) p q = again (each_label (arm_meets x) x y) (meets p q)
pair (Branch x) (Select y) p q = again (each_label (arm_meets x) y y) (meets p q)
pair (OutLoop x) (InLoop y) p q = again (meets x y) (meets p q)
pair (InLoop x) (OutLoop y) p q = again (meets x y) (meets p q)
pair _ _ p q = refl

abbrev turned_item : Bool → Item → Item
turned_item false i = i
turned_item true i = dual_item i

seen-followed : (t : Bool) (i : Item) (p : Place) → seen t (followed i p) ≡ followed (turned_item t i) (seen t p)
seen-followed false i p = refl
seen-followed true i p = dual_of-followed i p

seen-done : (t : Bool) → seen t done ≡ done
seen-done false = refl
seen-done true = refl

pub pair_seen : (t : Bool) (i j : Item) (p q : Place) → meets (seen t (followed i p)) (followed j q) ≡ (meets (seen t (followed i done)) (followed j done) && meets (seen t p) q)
pair_seen t i j p q =
    ap (λ (u : Place). meets u (followed j q)) (seen-followed t i p) ∙ pair (turned_item t i) j (seen t p) q
    ∙ ap (λ (u : Place). meets u (followed j done) && meets (seen t p) q) (sym (seen-followed t i done ∙ ap (followed (turned_item t i)) (seen-done t)))

pub nothing_met : (j : Item) (q : Place) → meets done (followed j q) ≡ false
nothing_met (Send k) q = refl
nothing_met (Recv k) q = refl
nothing_met (Select x) q = refl
nothing_met (Branch x) q = refl
nothing_met (OutLoop x) q = refl
nothing_met (InLoop x) q = refl

pub meets_nothing : (i : Item) (p : Place) → meets (followed i p) done ≡ false
meets_nothing (Send k) p = refl
meets_nothing (Recv k) p = refl
meets_nothing (Select x) p = refl
meets_nothing (Branch x) p = refl
meets_nothing (OutLoop x) p = refl
meets_nothing (InLoop x) p = refl

pub and_false : (a b : Bool) → b ≡ false → (a && b) ≡ false
and_false true b e = e
and_false false b e = refl

-- lists that differ in length don't meet
pub lengths_differ : (t : Bool) (a b : List Item) → (length a ≡ length b → ⊥) → meets (seen t (place_of a)) (place_of b) ≡ false
lengths_differ t [] [] h = absurd (h refl)
lengths_differ t [] (j ∷ b) h = ap (λ (u : Place). meets u (place_of (j ∷ b))) (seen-done t) ∙ nothing_met j (place_of b)
lengths_differ t (i ∷ a) [] h = ap (λ (u : Place). meets u done) (seen-followed t i (place_of a)) ∙ meets_nothing (turned_item t i) (seen t (place_of a))
lengths_differ t (i ∷ a) (j ∷ b) h = pair_seen t i j (place_of a) (place_of b) ∙ and_false _ _ (lengths_differ t a b (λ e. h (ap suc e)))

-- what is left from item n on
pub from_item : (t : Bool) (a b : List Item) (n : ℕ) (i j : Item) → n < length a → n < length b → i ≡ get_or a n i → j ≡ get_or b n j
    → meets (seen t (place_of (drop n a))) (place_of (drop n b)) ≡ (meets (seen t (followed i done)) (followed j done) && meets (seen t (place_of (drop (n + 1) a))) (place_of (drop (n + 1) b)))
from_item t a b n i j la lb ia jb =
    at_drop_more (λ (xs : List Item). meets (seen t (place_of xs)) (place_of (drop n b))) a n i la
    ∙ at_drop_more (λ (ys : List Item). meets (seen t (place_of (get_or a n i ∷ drop (n + 1) a))) (place_of ys)) b n j lb
    ∙ pair_seen t (get_or a n i) (get_or b n j) (place_of (drop (n + 1) a)) (place_of (drop (n + 1) b))
    ∙ ap (λ (x : Item). meets (seen t (followed x done)) (followed (get_or b n j) done) && meets (seen t (place_of (drop (n + 1) a))) (place_of (drop (n + 1) b))) (sym ia)
    ∙ ap (λ (y : Item). meets (seen t (followed i done)) (followed y done) && meets (seen t (place_of (drop (n + 1) a))) (place_of (drop (n + 1) b))) (sym jb)

-- ---- kinds

pub kinds_alike : (r : Bool) (k l : Kind) → (IsTrue r ↔ (k ≡ l)) → r ≡ (is_same_carried (carried_of k) (carried_of l) && true)
kinds_alike r k l h = is_same_carried-from r k l h ∙ and_true (is_same_carried (carried_of k) (carried_of l))
  where
    and_true : (b : Bool) → b ≡ (b && true)
    and_true true = refl
    and_true false = refl

-- ---- arms

each_label-dual : (test : ℕ → Place → Bool) (arms others : Choices) → each_label test (dual_choices arms) others ≡ each_label test arms others
each_label-dual test no_choice others = refl
each_label-dual test (arm l p arms) others = ap (λ (b : Bool). passes (test l) (at_label l others) && b) (each_label-dual test arms others)

pub labels_turned : (r : Bool) (x y : Choices) → r ≡ each_label (arm_meets (dual_choices x)) x y → r ≡ (each_label (arm_meets (dual_choices x)) (dual_choices x) y && true)
labels_turned r x y h = h ∙ sym (each_label-dual (arm_meets (dual_choices x)) x y) ∙ and_true (each_label (arm_meets (dual_choices x)) (dual_choices x) y)
  where
    and_true : (b : Bool) → b ≡ (b && true)
    and_true true = refl
    and_true false = refl

arm_by : (arms : Choices) (l : ℕ) (p q : Place) → at_label l arms ≡ Some p → arm_meets arms l q ≡ meets p q
arm_by no_choice l p q e = cc
arm_by (arm m a arms) l p q e =
    elim (cases_Bool (l == m)) [
      | inl same ↦ let it : a ≡ p = (let f : Some a ≡ Some p = sym (ap (λ (b : Bool). cond b (Some a) (at_label l arms)) same) ∙ e in cc) in
          ap (λ (b : Bool). cond b (meets a q) (arm_meets arms l q)) same ∙ ap (λ (t : Place). meets t q) it
      | inr other ↦ ap (λ (b : Bool). cond b (meets a q) (arm_meets arms l q)) other ∙ arm_by arms l p q (sym (ap (λ (b : Bool). cond b (Some a) (at_label l arms)) other) ∙ e)
    ]

no_arm_by : (arms : Choices) (l : ℕ) (q : Place) → at_label l arms ≡ None → arm_meets arms l q ≡ false
no_arm_by no_choice l q e = refl
no_arm_by (arm m a arms) l q e =
    elim (cases_Bool (l == m)) [
      | inl same ↦ let f : Some a ≡ None = sym (ap (λ (b : Bool). cond b (Some a) (at_label l arms)) same) ∙ e in cc
      | inr other ↦ ap (λ (b : Bool). cond b (meets a q) (arm_meets arms l q)) other ∙ no_arm_by arms l q (sym (ap (λ (b : Bool). cond b (Some a) (at_label l arms)) other) ∙ e)
    ]

seen_at : (t : Bool) (arms : Choices) (l : ℕ) → at_label l (arms_seen t arms) ≡ option_map (seen t) (at_label l arms)
seen_at true arms l = at_label-dual l arms
seen_at false arms l = same (at_label l arms)
  where
    same : (o : Option Place) → o ≡ option_map (seen false) o
    same None = refl
    same (Some p) = refl

pub arms_at : (t : Bool) (a b : Choices) (l : ℕ) (p q : Place) → at_label l a ≡ Some p → at_label l b ≡ Some q → meets (seen t p) q ≡ passes (arm_meets (arms_seen t a) l) (at_label l b)
arms_at t a b l p q ea eb =
    sym (ap (passes (arm_meets (arms_seen t a) l)) eb ∙ arm_by (arms_seen t a) l (seen t p) q (seen_at t a l ∙ ap (option_map (seen t)) ea))

fails : (test : Place → Bool) (o : Option Place) → ((q : Place) → test q ≡ false) → passes test o ≡ false
fails test None h = refl
fails test (Some q) h = h q

pub no_arm_first : (t : Bool) (a : Choices) (l : ℕ) (o : Option Place) → at_label l a ≡ None → false ≡ passes (arm_meets (arms_seen t a) l) o
no_arm_first t a l o e = sym (fails (arm_meets (arms_seen t a) l) o (λ q. no_arm_by (arms_seen t a) l q (seen_at t a l ∙ ap (option_map (seen t)) e)))

pub no_arm_second : (t : Bool) (a : Choices) (l : ℕ) (o : Option Place) → o ≡ None → false ≡ passes (arm_meets (arms_seen t a) l) o
no_arm_second t a l o e = sym (ap (passes (arm_meets (arms_seen t a) l)) e)

-- ---- one item

-- it is enough to look at the items when they are known
pub item_by : (t t' : Bool) (a a' b b' : Item) (r : Bool) → t ≡ t' → a ≡ a' → b ≡ b' → r ≡ meets (seen t' (followed a' done)) (followed b' done) → r ≡ meets (seen t (followed a done)) (followed b done)
item_by t t' a a' b b' r e f g h = h ∙ sym (λ i. meets (seen (e i) (followed (f i) done)) (followed (g i) done))

-- the items at that number meet, so the others decide; or they don't, and that decides
module _ (t : Bool) (a b : List Item) (n : ℕ) (i j : Item) (r whole : Bool) (la : n < length a) (lb : n < length b) (ia : i ≡ get_or a n i) (jb : j ≡ get_or b n j)
    (by_item : r ≡ meets (seen t (followed i done)) (followed j done)) (left : meets (seen t (place_of (drop n a))) (place_of (drop n b)) ≡ whole) where
  parted : (r && meets (seen t (place_of (drop (n + 1) a))) (place_of (drop (n + 1) b))) ≡ whole
  parted = ap (λ (x : Bool). x && meets (seen t (place_of (drop (n + 1) a))) (place_of (drop (n + 1) b))) by_item ∙ sym (from_item t a b n i j la lb ia jb) ∙ left

  pub goes_on : r ≡ true → meets (seen t (place_of (drop (n + 1) a))) (place_of (drop (n + 1) b)) ≡ whole
  goes_on e = sym (ap (λ (x : Bool). x && meets (seen t (place_of (drop (n + 1) a))) (place_of (drop (n + 1) b))) e) ∙ parted

  pub stops : r ≡ false → false ≡ whole
  stops e = sym (ap (λ (x : Bool). x && meets (seen t (place_of (drop (n + 1) a))) (place_of (drop (n + 1) b))) e) ∙ parted
