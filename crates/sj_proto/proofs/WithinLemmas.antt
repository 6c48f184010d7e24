-- Protocols that pass no limit, whatever numbers their labels have.
use Rattle.std.proofs.Common.{◌≢◌, ℕ, suc, ◌+◌, ◌<◌, ◌≤◌, IsTrue, List, length, arith}
use Rattle.sj_lang.specs.Place.{Place, Carried, Choices, done, message, choice, repeat, int, boolean, text, session, no_choice, arm}
use Rattle.sj_lang.specs.PlaceSize.{place_size, carried_size, choices_size}
use Rattle.sj_lang.specs.ItemCount.{item_count}
use Rattle.sj_lang.specs.Limits.{Limits, limits}
use Rattle.sj_grammar.specs.Names.{is_name}
use Rattle.sj_grammar.specs.Protocols.{IsGiven, IsGivenKind, AreGiven}
use Rattle.sj_proto.specs.Writable.{IsWritable, CanBeCarried, AreWritable}

-- the label is a name, and not too long
pub record IsLabel (L : Limits) (s : List ℕ) : Type 0 where
  pub name : IsTrue (is_name s)
  pub short : length s ≤ L.name

module _ (L : Limits) (word : ℕ → List ℕ) where
  abbrev mutual
    pub IsWithin : ℕ → Place → Type 0
    IsWithin o done = Unit {0}
    IsWithin o (message w k rest) = (o < L.nesting) × IsWithinKind (suc o) k × IsWithin o rest
    IsWithin o (choice w arms rest) = (o < L.nesting) × (arms ≢ no_choice) × AreWithin (suc o) 0 arms × IsWithin o rest
    IsWithin o (repeat w body rest) = (o < L.nesting) × IsWithin (suc o) body × IsWithin o rest

    pub IsWithinKind : ℕ → Carried → Type 0
    IsWithinKind o int = Unit {0}
    IsWithinKind o boolean = Unit {0}
    IsWithinKind o text = Unit {0}
    IsWithinKind o (session p) = (p ≢ done) × IsWithin o p

    pub AreWithin : ℕ → ℕ → Choices → Type 0
    AreWithin o k no_choice = Unit {0}
    AreWithin o k (arm label p arms) = (k < L.labels) × IsLabel L (word label) × IsWithin o p × AreWithin o (suc k) arms

  -- what the grammar gives passes none
  mutual
    pub given_within : (p : Place) (o : ℕ) → IsGiven L word o p → IsWithin o p
    given_within done o g = tt
    given_within (message w k rest) o g = (g.0, kind_within k (suc o) g.1, given_within rest o g.2)
    given_within (choice w a rest) o g = (g.0, g.1, arms_within a (suc o) 0 g.2, given_within rest o g.3)
    given_within (repeat w p rest) o g = (g.0, given_within p (suc o) g.1, given_within rest o g.2)

    pub kind_within : (k : Carried) (o : ℕ) → IsGivenKind L word o k → IsWithinKind o k
    kind_within int o g = tt
    kind_within boolean o g = tt
    kind_within text o g = tt
    kind_within (session p) o g = (g.0, given_within p o g.1)

    pub arms_within : (a : Choices) (o k : ℕ) → AreGiven L word o k a → AreWithin o k a
    arms_within no_choice o k g = tt
    arms_within (arm l p a) o k g = (g.0, record { name = g.1.name; short = g.1.short }, given_within p o g.2, arms_within a o (suc k) g.3)

module _ (word : ℕ → List ℕ) where
  abbrev mutual
    longest : Place → ℕ
    longest done = 0
    longest (message w k rest) = longest_kind k + longest rest
    longest (choice w a rest) = longest_arms a + longest rest
    longest (repeat w p rest) = longest p + longest rest

    longest_kind : Carried → ℕ
    longest_kind int = 0
    longest_kind boolean = 0
    longest_kind text = 0
    longest_kind (session p) = longest p

    longest_arms : Choices → ℕ
    longest_arms no_choice = 0
    longest_arms (arm l p a) = length (word l) + longest p + longest_arms a

  module _ (L : Limits) where
    mutual
      wide_within : (p : Place) (o : ℕ) → IsWritable word p → o + place_size p ≤ L.nesting → place_size p ≤ L.labels → longest p ≤ L.name → IsWithin L word o p
      wide_within done o h n l s = tt
      wide_within (message w k rest) o h n l s = (omega arith, wide_kind k (suc o) h.0 (omega arith) (omega arith) (omega arith), wide_within rest o h.1 (omega arith) (omega arith) (omega arith))
      wide_within (choice w a rest) o h n l s = (omega arith, h.0, wide_arms a (suc o) 0 h.1 (omega arith) (omega arith) (omega arith), wide_within rest o h.2 (omega arith) (omega arith) (omega arith))
      wide_within (repeat w p rest) o h n l s = (omega arith, wide_within p (suc o) h.0 (omega arith) (omega arith) (omega arith), wide_within rest o h.1 (omega arith) (omega arith) (omega arith))

      wide_kind : (k : Carried) (o : ℕ) → CanBeCarried word k → o + carried_size k ≤ L.nesting → carried_size k ≤ L.labels → longest_kind k ≤ L.name → IsWithinKind L word o k
      wide_kind int o h n l s = tt
      wide_kind boolean o h n l s = tt
      wide_kind text o h n l s = tt
      wide_kind (session p) o h n l s = (h.0, wide_within p o h.1 (omega arith) (omega arith) (omega arith))

      wide_arms : (a : Choices) (o k : ℕ) → AreWritable word a → o + choices_size a ≤ L.nesting → k + choices_size a ≤ L.labels → longest_arms a ≤ L.name → AreWithin L word o k a
      wide_arms no_choice o k h n l s = tt
      wide_arms (arm l p a) o k h n m s = (omega arith, record { name = h.0; short = omega arith }, wide_within p o h.1 (omega arith) (omega arith) (omega arith), wide_arms a o (suc k) h.2 (omega arith) (omega arith) (omega arith))

  -- limits that the protocol doesn't pass
  abbrev pub wide : Place → Limits
  wide p = record limits { items = item_count p; nesting = place_size p; labels = place_size p; name = longest p }

  pub is_wide : (p : Place) → IsWritable word p → IsWithin (wide p) word 0 p
  is_wide p h = wide_within (wide p) p 0 h (omega arith) (omega arith) (omega arith)
