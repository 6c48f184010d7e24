-- What the tests of labels decide.
use Rattle.std.proofs.Common.{◌≡◌, ◌≢◌, ℕ, zero, suc, ◌<◌, List, [], ◌∷◌, ◌==◌, ◌&&◌, ◌||◌, Bool, true, false, length, get_or, refl, ap, sym, ◌∙◌, arith}
use Rattle.std.proofs.Common as common
use Rattle.std.specs.List.{Contains, AllByRecursion}
use Rattle.std.proofs.lemmas.Bool.Decides.{Decides-eqb}
use Rattle.sj_lang.specs.Place.{Choices}
use Rattle.sj_lang.specs.Code.{Branches}
use Rattle.sj_acceptance.specs.Labels.{labels_of, branch_labels, StandOnce, AreItsArms}
use Rattle.sj_acceptance.specs.LabelTests.{is_among, all_differ, are_among, is_empty, are_labels_of}
use Rattle.sj_acceptance_laws.proofs.FaultLemmas.{both_true, not_true}
use Rattle.sj_acceptance_laws.proofs.PairLemmas.{Pairs, pairs_from_all, all_from_pairs}

either : (x y : Bool) → (x || y) ≡ true → x ≡ false → y ≡ true
either true y h e = absurd (cc)
either false y h e = h

pub among_from : (x : ℕ) (ys : List ℕ) → is_among x ys ≡ true → Contains ys x
among_from x [] h = absurd (cc)
among_from x (y ∷ ys) h =
    elim (y == x) as (λ b. (y == x) ≡ b → Contains (y ∷ ys) x) [
      | true ↦ λ e. (0, (omega arith), (Decides-eqb y x).0 e)
      | false ↦ λ e. let r = among_from x ys (either (y == x) (is_among x ys) h e) in (suc r.0, (omega arith), r.2)
    ] refl

or_true : (x : Bool) → (x || true) ≡ true
or_true true = refl
or_true false = refl

among_at : (x : ℕ) (ys : List ℕ) (k : ℕ) → k < length ys → get_or ys k x ≡ x → is_among x ys ≡ true
among_at x [] k l e = absurd (omega arith)
among_at x (y ∷ ys) zero l e = ap (λ b. b || is_among x ys) ((Decides-eqb y x).1 e)
among_at x (y ∷ ys) (suc k) l e = ap (λ b. (y == x) || b) (among_at x ys k (omega arith) e) ∙ or_true (y == x)

pub among_to : (x : ℕ) (ys : List ℕ) → Contains ys x → is_among x ys ≡ true
among_to x ys c = among_at x ys c.0 c.1 c.2

pub not_among_from : (x : ℕ) (ys : List ℕ) → is_among x ys ≡ false → AllByRecursion (λ y. x ≢ y) ys
not_among_from x [] h = tt
not_among_from x (y ∷ ys) h =
    let e = neither (y == x) (is_among x ys) h in
    ((λ same. let t : (y == x) ≡ true = (Decides-eqb y x).1 (sym same) in absurd (cc)), not_among_from x ys e.1)
  where
    neither : (b c : Bool) → (b || c) ≡ false → (b ≡ false) × (c ≡ false)
    neither true c g = absurd (cc)
    neither false c g = (refl, g)

pub not_among_to : (x : ℕ) (ys : List ℕ) → AllByRecursion (λ y. x ≢ y) ys → is_among x ys ≡ false
not_among_to x [] h = refl
not_among_to x (y ∷ ys) h = ap (λ b. b || is_among x ys) (differ (y == x) (λ t. h.0 (sym ((Decides-eqb y x).0 t)))) ∙ not_among_to x ys h.1
  where
    differ : (b : Bool) → (b ≡ true → ⊥) → b ≡ false
    differ true f = absurd (f refl)
    differ false f = refl

once_from : (xs : List ℕ) → all_differ xs ≡ true → Pairs (λ m n. m ≢ n) xs
once_from [] h = tt
once_from (x ∷ xs) h =
    let p = both_true (common.not (is_among x xs)) (all_differ xs) h in
    (not_among_from x xs (not_true (is_among x xs) p.0), once_from xs p.1)

once_to : (xs : List ℕ) → Pairs (λ m n. m ≢ n) xs → all_differ xs ≡ true
once_to [] h = refl
once_to (x ∷ xs) h = ap (λ b. common.not b && all_differ xs) (not_among_to x xs h.0) ∙ once_to xs h.1

pub stand_once_from : (xs : List ℕ) → all_differ xs ≡ true → StandOnce xs
stand_once_from xs h = all_from_pairs (λ m n. m ≢ n) xs (once_from xs h)

pub stand_once_to : (xs : List ℕ) → StandOnce xs → all_differ xs ≡ true
stand_once_to xs h = once_to xs (pairs_from_all (λ m n. m ≢ n) xs h)

are_among_at : (xs ys : List ℕ) → are_among xs ys ≡ true → (z k : ℕ) → k < length xs → get_or xs k z ≡ z → Contains ys z
are_among_at [] ys h z k l e = absurd (omega arith)
are_among_at (x ∷ xs) ys h z zero l e = among_from z ys (ap (λ w. is_among w ys) (sym e) ∙ (both_true (is_among x ys) (are_among xs ys) h).0)
are_among_at (x ∷ xs) ys h z (suc k) l e = are_among_at xs ys (both_true (is_among x ys) (are_among xs ys) h).1 z k (omega arith) e

are_among_from : (xs ys : List ℕ) → are_among xs ys ≡ true → (z : ℕ) → Contains xs z → Contains ys z
are_among_from xs ys h z c = are_among_at xs ys h z c.0 c.1 c.2

are_among_to : (xs ys : List ℕ) → ((z : ℕ) → Contains xs z → Contains ys z) → are_among xs ys ≡ true
are_among_to [] ys f = refl
are_among_to (x ∷ xs) ys f =
    ap (λ b. b && are_among xs ys) (among_to x ys (f x (0, (omega arith), refl))) ∙ are_among_to xs ys (λ z c. f z (suc c.0, (omega arith), c.2))

some_from : (xs : List ℕ) → common.not (is_empty xs) ≡ true → xs ≢ []
some_from [] h = absurd (cc)
some_from (x ∷ xs) h = λ e. absurd (cc)

some_to : (xs : List ℕ) → xs ≢ [] → common.not (is_empty xs) ≡ true
some_to [] h = absurd (h refl)
some_to (x ∷ xs) h = refl

-- the four tests, one by one
abbrev pub FourPass : Choices → List ℕ → Type 0
FourPass choices ls = (common.not (is_empty ls) ≡ true) × (all_differ ls ≡ true) × (are_among ls (labels_of choices) ≡ true) × (are_among (labels_of choices) ls ≡ true)

pub four_pass : (choices : Choices) (ls : List ℕ) → are_labels_of choices ls ≡ true → FourPass choices ls
four_pass choices ls h =
    let a = both_true (common.not (is_empty ls) && all_differ ls && are_among ls (labels_of choices)) (are_among (labels_of choices) ls) h in
    let b = both_true (common.not (is_empty ls) && all_differ ls) (are_among ls (labels_of choices)) a.0 in
    let c = both_true (common.not (is_empty ls)) (all_differ ls) b.0 in
    (c.0, c.1, b.1, a.1)

pub its_arms_from : (choices : Choices) (arms : Branches) → are_labels_of choices (branch_labels arms) ≡ true → AreItsArms choices arms
its_arms_from choices arms h =
    let f = four_pass choices (branch_labels arms) h in
    record {
      same = λ l. (are_among_from (branch_labels arms) (labels_of choices) f.2 l, are_among_from (labels_of choices) (branch_labels arms) f.3 l);
      once = stand_once_from (branch_labels arms) f.1;
      some = some_from (branch_labels arms) f.0;
    }

pub its_arms_to : (choices : Choices) (arms : Branches) → AreItsArms choices arms → are_labels_of choices (branch_labels arms) ≡ true
its_arms_to choices arms a =
    let ls = branch_labels arms in
    let one = some_to ls a.some in
    let two = stand_once_to ls a.once in
    let three = are_among_to ls (labels_of choices) (λ l. (a.same l).0) in
    let four = are_among_to (labels_of choices) ls (λ l. (a.same l).1) in
    λ i. one i && two i && three i && four i
