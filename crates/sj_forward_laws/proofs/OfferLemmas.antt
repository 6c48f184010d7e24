-- Lists of sessions that are offered: parts of lists, numbers that rise, and sessions that weren't
-- opened.
use Rattle.std.proofs.Common.{◌≡◌, ℕ, ◌<◌, ◌≤◌, List, [], ◌∷◌, ◌++◌, sym, subst, ap, ◌∙◌, arith}
use Rattle.std.specs.Prelude.{true}
use Rattle.std.specs.List.{AllByRecursion}
use Rattle.sj_rules.specs.Opened.{opened_number, opener_of, is_opened_by}
use Rattle.sj_rules.specs.PlainSide.{PlainAt}
use Rattle.sj_rules.specs.Reading.{IsUnopened}
use Rattle.sj_opened_lemmas.proofs.OpenKeepLemmas.{opener_is}
use Rattle.sj_opened_lemmas.proofs.RequestKeepLemmas.{opener_of_opened}
use Rattle.sj_forward_laws.specs.Kept.{AreRising, IsOffer}

-- all of the prefix, of the rest, and by two facts
pub all_front : {X : Type 0} (A : X → Type 0) (xs ys : List X) → AllByRecursion A (xs ++ ys) → AllByRecursion A xs
all_front A [] ys all = tt
all_front A (x ∷ xs) ys all = (all.0, all_front A xs ys all.1)

pub all_back : {X : Type 0} (A : X → Type 0) (xs ys : List X) → AllByRecursion A (xs ++ ys) → AllByRecursion A ys
all_back A [] ys all = all
all_back A (x ∷ xs) ys all = all_back A xs ys all.1

pub all_two : {X : Type 0} (A B C : X → Type 0) → ((x : X) → A x → B x → C x) → (xs : List X) → AllByRecursion A xs → AllByRecursion B xs
    → AllByRecursion C xs
all_two A B C f [] a b = tt
all_two A B C f (x ∷ xs) a b = (f x a.0 b.0, all_two A B C f xs a.1 b.1)

-- numbers after one of numbers that rise are above it
pub rising_behind : (xs : List ℕ) (n : ℕ) (ys : List ℕ) → AreRising (xs ++ n ∷ ys) → AllByRecursion (λ m. n < m) ys
rising_behind [] n ys rising = rising.0
rising_behind (x ∷ xs) n ys rising = rising_behind xs n ys rising.1

-- a larger number after numbers that rise
pub rising_push : (xs : List ℕ) (n : ℕ) → AreRising xs → AllByRecursion (λ m. m < n) xs → AreRising (xs ++ n ∷ [])
rising_push [] n rising below = (tt, tt)
rising_push (x ∷ xs) n rising below = (last xs rising.0, rising_push xs n rising.1 below.1)
  where
    last : (ys : List ℕ) → AllByRecursion (λ m. x < m) ys → AllByRecursion (λ m. x < m) (ys ++ n ∷ [])
    last [] all = (below.0, tt)
    last (y ∷ ys) all = (all.0, last ys all.1)

-- a session has one opener
pub one_opener : (p q s : ℕ) → is_opened_by p s ≡ true → is_opened_by q s ≡ true → p ≡ q
one_opener p q s a b = sym (opener_is p s a) ∙ opener_is q s b

module _ {P Q : Type 0} (plain : PlainAt P Q) where
  -- what is offered was opened
  pub offer_is_opened : (from s : ℕ) → IsOffer plain from s → IsUnopened plain s → ⊥
  offer_is_opened from s offer none =
      let opener : opener_of s ≡ none.0 = ap opener_of none.4 ∙ opener_of_opened none.0 none.1 none.3 in
      let own : from ≡ none.0 = sym (opener_is from s offer.opener) ∙ opener in
      let below : s < opened_number none.0 (plain.requests none.0) = subst (λ (x : ℕ). s < opened_number x (plain.requests x)) own offer.below in
      let above : plain.requests none.0 ≤ none.1 = none.2 in
      let number : s ≡ opened_number none.0 none.1 = none.4 in
      omega (arith, below, above, number)
