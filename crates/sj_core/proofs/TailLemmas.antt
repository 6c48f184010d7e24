-- The last of the entries with which logs end, sought in one log after another. Each log is read
-- from its end.
use Rattle.std.proofs.Common.{◌≡◌, ◌+◌, ◌<◌, ◌≤◌, ℕ, List, [], ◌∷◌, refl, sym, ap, ◌∙◌, inl, inr, arith}
use Rattle.std.specs.Prelude.{◌⊎◌, Bool, true, false, ◌==◌, nat_lt, if◌then◌else◌, Option, Some, None}
use Rattle.std.proofs.lemmas.Bool.{eqb-true, eqb-false}
use Rattle.std.proofs.lemmas.Bool.Decides.{nat_tests}
use Rattle.sj_rules.specs.Log.{EntryAt, IsBefore}
use Rattle.sj_joined_lemmas.proofs.OrderLemmas.{before_later}
use Rattle.sj_core.specs.Given.{line_by}
use Rattle.sj_core.specs.Tails.{first_clock, later_at, later_than}
use Rattle.sj_core.specs.declared.tails.Tail.{Tail}

-- the tail is that of one of the first logs, so many, and comes after those of all others of them
pub record IsLatest (logs : ℕ → List EntryAt) (many : ℕ) (tail : Tail) : Type 0 where
  pub entry : EntryAt
  pub more : List EntryAt
  pub own : logs tail.party ≡ entry ∷ more
  pub clock_is : entry.clock ≡ tail.clock
  pub below : tail.party < many
  pub last : (q : ℕ) (e : EntryAt) (es : List EntryAt) → q < many → (q ≡ tail.party → ⊥) → logs q ≡ e ∷ es → IsBefore (line_by q e) (line_by tail.party entry)

-- the last tail of the first logs, so many
abbrev pub IsEnd : (ℕ → List EntryAt) → ℕ → Option Tail → Type 0
IsEnd logs many None = (q : ℕ) → q < many → logs q ≡ []
IsEnd logs many (Some tail) = IsLatest logs many tail

-- of none
pub end_of_none : (logs : ℕ → List EntryAt) → IsEnd logs 0 None
end_of_none logs q lt = absurd (omega (arith, lt))

module _ (logs : ℕ → List EntryAt) (k : ℕ) where
  -- one of those before, or that one
  before_or : (q : ℕ) → q < k + 1 → (q < k) ⊎ (q ≡ k)
  before_or q lt = grind (arith, lt)

  none_more : ((q : ℕ) → q < k → logs q ≡ []) → logs k ≡ [] → (q : ℕ) → q < k + 1 → logs q ≡ []
  none_more none here q lt = elim (before_or q lt) [ inl t ↦ none q t | inr t ↦ ap logs t ∙ here ]

  -- the next log has no entry
  latest_still : (tail : Tail) → IsLatest logs k tail → logs k ≡ [] → IsLatest logs (k + 1) tail
  latest_still tail f here = record {
    entry = f.entry;
    more = f.more;
    own = f.own;
    clock_is = f.clock_is;
    below = let lt = f.below in omega (arith, lt);
    last = λ q e es lt apart is.
        elim (before_or q lt) [
          | inl t ↦ f.last q e es t apart is
          | inr t ↦ absurd (let no : [] ≡ e ∷ es = sym here ∙ ap logs (sym t) ∙ is in cc no)
        ];
  }

  -- it has one
  module _ (e : EntryAt) (es : List EntryAt) (here : logs k ≡ e ∷ es) where
    abbrev own : Tail
    own = record { party = k; clock = e.clock }

    -- the entry of a party that has only one last entry
    one_entry : (p q : ℕ) (c d : EntryAt) (cs ds : List EntryAt) → q ≡ p → logs p ≡ c ∷ cs → logs q ≡ d ∷ ds → c ≡ d
    one_entry p q c d cs ds same at is = let both : c ∷ cs ≡ d ∷ ds = sym at ∙ ap logs (sym same) ∙ is in cc both

    -- where no other one does
    latest_of_all : ((q : ℕ) → q < k → logs q ≡ []) → IsLatest logs (k + 1) own
    latest_of_all none = record {
      entry = e;
      more = es;
      own = here;
      clock_is = refl;
      below = omega arith;
      last = λ q d ds lt apart is.
          elim (before_or q lt) [
            | inl t ↦ absurd (let no : [] ≡ d ∷ ds = sym (none q t) ∙ is in cc no)
            | inr t ↦ absurd (apart t)
          ];
    }

    -- its clock isn't below the latest
    latest_now : (tail : Tail) → IsLatest logs k tail → tail.clock ≤ e.clock → IsLatest logs (k + 1) own
    latest_now tail f higher = record {
      entry = e;
      more = es;
      own = here;
      clock_is = refl;
      below = omega arith;
      last = λ q d ds lt apart is.
          elim (before_or q lt) [
            | inl t ↦ by q d ds t (q == tail.party) refl is
            | inr t ↦ absurd (apart t)
          ];
    }
      where
        by : (q : ℕ) (d : EntryAt) (ds : List EntryAt) → q < k → (b : Bool) → (q == tail.party) ≡ b → logs q ≡ d ∷ ds → IsBefore (line_by q d) (line_by k e)
        by q d ds lt true at is =
            let one : f.entry ≡ d = one_entry tail.party q f.entry d f.more ds (eqb-true q tail.party at) f.own is in
            let clock : f.entry.clock ≡ d.clock = ap (λ (x : EntryAt). x.clock) one in
            let tail_clock = f.clock_is in
            grind (arith, higher, clock, tail_clock, lt)
        by q d ds lt false at is = before_later (line_by q d) (line_by tail.party f.entry) (line_by k e) (f.last q d ds lt (eqb-false q tail.party at) is) tail_before
          where
            tail_before : IsBefore (line_by tail.party f.entry) (line_by k e)
            tail_before = let tail_clock = f.clock_is in let low = f.below in grind (arith, higher, tail_clock, low)

    -- it is
    latest_kept : (tail : Tail) → IsLatest logs k tail → e.clock < tail.clock → IsLatest logs (k + 1) tail
    latest_kept tail f lower = record {
      entry = f.entry;
      more = f.more;
      own = f.own;
      clock_is = f.clock_is;
      below = let lt = f.below in omega (arith, lt);
      last = λ q d ds lt apart is.
          elim (before_or q lt) [
            | inl t ↦ f.last q d ds t apart is
            | inr t ↦ at_own q d ds t is
          ];
    }
      where
        at_own : (q : ℕ) (d : EntryAt) (ds : List EntryAt) → q ≡ k → logs q ≡ d ∷ ds → IsBefore (line_by q d) (line_by tail.party f.entry)
        at_own q d ds same is =
            let one : e ≡ d = one_entry k q e d es ds same here is in
            let clock : e.clock ≡ d.clock = ap (λ (x : EntryAt). x.clock) one in
            let tail_clock = f.clock_is in
            inl (omega (arith, lower, clock, tail_clock))

    more_of : (latest : Option Tail) → IsEnd logs k latest → IsEnd logs (k + 1) (later_than latest own)
    more_of None none = latest_of_all none
    more_of (Some tail) f = by (nat_lt e.clock tail.clock) refl
      where
        by : (b : Bool) → nat_lt e.clock tail.clock ≡ b → IsEnd logs (k + 1) (if b then Some tail else Some own)
        by true at = latest_kept tail f (grind (arith, nat_tests, at))
        by false at = latest_now tail f (grind (arith, nat_tests, at))

  -- with the next log
  pub end_of_more : (latest : Option Tail) → IsEnd logs k latest → IsEnd logs (k + 1) (later_at latest k (first_clock (logs k)))
  end_of_more latest l = by latest (logs k) refl l
    where
      by : (latest : Option Tail) (own : List EntryAt) → logs k ≡ own → IsEnd logs k latest → IsEnd logs (k + 1) (later_at latest k (first_clock own))
      by None [] here none = none_more none here
      by (Some tail) [] here f = latest_still tail f here
      by latest (e ∷ es) here f = more_of e es here latest f
