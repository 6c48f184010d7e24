-- Logs whose clocks rise can be joined: each is merged in, entry by entry.
use Rattle.std.proofs.Common.{◌≡◌, ℕ, ◌<◌, ◌≤◌, List, [], ◌∷◌, refl, sym, ap, subst, ◌∙◌, arith, inl, inr, zero, suc}
use Rattle.std.specs.Prelude.{◌⊎◌, Bool, true, false, ◌&&◌, ◌||◌, ◌==◌, nat_lt, if◌then◌else◌, Some, None}
use Rattle.std.specs.List.{AllByRecursion, cons_option}
use Rattle.std.proofs.lemmas.Bool.{eqb-true, eqb-false}
use Rattle.std.proofs.lemmas.Bool.Decides.{nat_tests}
use Rattle.sj_rules.specs.Log.{EntryAt, LineAt, IsBefore, IsInOrder, IsRising, IsJoined, IsMerged, part_of, put_log, logs_below}
use Rattle.sj_joined_lemmas.proofs.OrderLemmas.{before_later, part_here, part_others, joined_more}

-- the test of the order
abbrev pub is_before : LineAt → LineAt → Bool
is_before k l = nat_lt k.entry.clock l.entry.clock || ((k.entry.clock == l.entry.clock) && nat_lt k.party l.party)

-- the test says so
pub before_test : (k l : LineAt) → is_before k l ≡ true → IsBefore k l
before_test k l e = grind (arith, nat_tests)

-- and is true only there
pub before_tested : (k l : LineAt) → IsBefore k l → is_before k l ≡ true
before_tested k l b = grind (arith, nat_tests)

-- of two parties' lines, one is before the other
pub apart_parties : (k l : LineAt) → (k.party ≡ l.party → ⊥) → IsBefore k l ⊎ IsBefore l k
apart_parties k l apart = grind (arith, nat_tests)

-- a line put in its place
abbrev pub put_line : LineAt → List LineAt → List LineAt
put_line l [] = l ∷ []
put_line l (m ∷ ms) = if is_before l m then l ∷ m ∷ ms else m ∷ put_line l ms

-- a party's entry as a line
abbrev pub line_at : ℕ → EntryAt → LineAt
line_at party e = record { party = party; entry = e }

-- a party's log merged in
abbrev pub merged_in : ℕ → List EntryAt → List LineAt → List LineAt
merged_in party [] lines = lines
merged_in party (e ∷ es) lines = put_line (line_at party e) (merged_in party es lines)

-- what holds of it and of all others
all_put : (T : LineAt → Type 0) (l : LineAt) (ms : List LineAt) → T l → AllByRecursion T ms → AllByRecursion T (put_line l ms)
all_put T l [] here all = (here, tt)
all_put T l (m ∷ ms) here all = by (all_put T l ms here all.1) (is_before l m)
  where
    by : AllByRecursion T (put_line l ms) → (b : Bool) → AllByRecursion T (if b then l ∷ m ∷ ms else m ∷ put_line l ms)
    by rest true = (here, all)
    by rest false = (all.0, rest)

-- what is before a line is before all after it
pub all_later : (k l : LineAt) (ms : List LineAt) → IsBefore k l → AllByRecursion (IsBefore l) ms → AllByRecursion (IsBefore k) ms
all_later k l [] before all = tt
all_later k l (m ∷ ms) before all = (before_later k l m before all.0, all_later k l ms before all.1)

-- one line is before the other
abbrev AreApart : LineAt → LineAt → Type 0
AreApart l m = IsBefore l m ⊎ IsBefore m l

-- where the one is not before the other, the other is before the one
other_way : (l m : LineAt) → AreApart l m → is_before l m ≡ false → IsBefore m l
other_way l m (inl a) e = absurd (cc (sym (before_tested l m a) ∙ e))
other_way l m (inr a) e = a

-- the lines stay in order
put_in_order : (l : LineAt) (ms : List LineAt) → AllByRecursion (AreApart l) ms → IsInOrder ms → IsInOrder (put_line l ms)
put_in_order l [] apart order = (tt, tt)
put_in_order l (m ∷ ms) apart order = by (put_in_order l ms apart.1 order.1) (is_before l m) refl
  where
    by : IsInOrder (put_line l ms) → (b : Bool) → is_before l m ≡ b → IsInOrder (if b then l ∷ m ∷ ms else m ∷ put_line l ms)
    by rest true e = let first : IsBefore l m = before_test l m e in ((first, all_later l m ms first order.0), order)
    by rest false e = (all_put (IsBefore m) l ms (other_way l m apart.0 e) order.0, rest)

-- the other parties' parts are as before
put_others : (p : ℕ) (l : LineAt) (ms : List LineAt) → (p == l.party) ≡ false → part_of p (put_line l ms) ≡ part_of p ms
put_others p l [] at = rw at
put_others p l (m ∷ ms) at = by (put_others p l ms at) (is_before l m)
  where
    by : part_of p (put_line l ms) ≡ part_of p ms → (b : Bool) → part_of p (if b then l ∷ m ∷ ms else m ∷ put_line l ms) ≡ part_of p (m ∷ ms)
    by rest true = part_others p l (m ∷ ms) at
    by rest false = ap (λ es. cons_option (if p == m.party then Some m.entry else None) es) rest

-- its own party has it first, where all that the party has is later
put_own : (l : LineAt) (ms : List LineAt) → AllByRecursion (λ e. l.entry.clock < e.clock) (part_of l.party ms) → part_of l.party (put_line l ms) ≡ l.entry ∷ part_of l.party ms
put_own l [] late = part_here l.party l [] refl
put_own l (m ∷ ms) late = by (l.party == m.party) refl (put_own l ms) (is_before l m) refl
  where
    by : (b : Bool) → (l.party == m.party) ≡ b →
        (AllByRecursion (λ e. l.entry.clock < e.clock) (part_of l.party ms) → part_of l.party (put_line l ms) ≡ l.entry ∷ part_of l.party ms) →
        (c : Bool) → is_before l m ≡ c → part_of l.party (if c then l ∷ m ∷ ms else m ∷ put_line l ms) ≡ l.entry ∷ part_of l.party (m ∷ ms)
    by b at rest true e = part_here l.party l (m ∷ ms) refl
    by true at rest false e =
        let here : l.party ≡ m.party = eqb-true l.party m.party at in
        let all : AllByRecursion (λ d. l.entry.clock < d.clock) (m.entry ∷ part_of l.party ms) =
        subst (λ (es : List EntryAt). AllByRecursion (λ d. l.entry.clock < d.clock) es) (part_here l.party m ms here) late in
        absurd (cc (sym (before_tested l m (inl all.0)) ∙ e))
    by false at rest false e =
        let all : AllByRecursion (λ d. l.entry.clock < d.clock) (part_of l.party ms) =
        subst (λ (es : List EntryAt). AllByRecursion (λ d. l.entry.clock < d.clock) es) (part_others l.party m ms at) late in
        part_others l.party m (put_line l ms) at ∙ rest all ∙ ap (λ es. l.entry ∷ es) (sym (part_others l.party m ms at))

-- a line is apart from the lines of other parties, and from later ones of its own
put_apart : (l : LineAt) (ms : List LineAt) → AllByRecursion (λ e. l.entry.clock < e.clock) (part_of l.party ms) → AllByRecursion (AreApart l) ms
put_apart l [] late = tt
put_apart l (m ∷ ms) late = by (l.party == m.party) refl (put_apart l ms)
  where
    by : (b : Bool) → (l.party == m.party) ≡ b → (AllByRecursion (λ e. l.entry.clock < e.clock) (part_of l.party ms) → AllByRecursion (AreApart l) ms) →
        AllByRecursion (AreApart l) (m ∷ ms)
    by true at rest =
        let all : AllByRecursion (λ d. l.entry.clock < d.clock) (m.entry ∷ part_of l.party ms) =
        subst (λ (es : List EntryAt). AllByRecursion (λ d. l.entry.clock < d.clock) es) (part_here l.party m ms (eqb-true l.party m.party at)) late in
        (inl (inl all.0), rest all.1)
    by false at rest = (
      apart_parties l m (eqb-false l.party m.party at),
      rest (subst (λ (es : List EntryAt). AllByRecursion (λ d. l.entry.clock < d.clock) es) (part_others l.party m ms at) late),
    )

-- where the clocks rise, all that follows is later
pub rising_late : (clock least : ℕ) (es : List EntryAt) → least ≤ clock → IsRising clock es → AllByRecursion (λ e. least < e.clock) es
rising_late clock least [] low rising = tt
rising_late clock least (e ∷ es) low rising =
    let first : clock < e.clock = rising.0 in
    let more : least < e.clock = omega arith in
    let still : least ≤ e.clock = omega arith in
    (more, rising_late e.clock least es still rising.1)

-- a log is merged into lines of other parties
pub merges : (clock party : ℕ) (log : List EntryAt) (so_far : List LineAt) → IsInOrder so_far → part_of party so_far ≡ [] → IsRising clock log →
    IsMerged so_far party log (merged_in party log so_far)
merges clock party [] so_far order none rising = record { order = order; own = none; others = λ p at. refl }
merges clock party (e ∷ es) so_far order none rising =
    let m : IsMerged so_far party es (merged_in party es so_far) = merges e.clock party es so_far order none rising.1 in
    let late : AllByRecursion (λ d. e.clock < d.clock) (part_of party (merged_in party es so_far)) =
    subst (λ (ds : List EntryAt). AllByRecursion (λ d. e.clock < d.clock) ds) (sym m.own) (rising_late e.clock e.clock es (omega arith) rising.1) in
    record {
      order = put_in_order (line_at party e) (merged_in party es so_far) (put_apart (line_at party e) (merged_in party es so_far) late) m.order;
      own = put_own (line_at party e) (merged_in party es so_far) late ∙ ap (λ ds. e ∷ ds) m.own;
      others = λ p at. put_others p (line_at party e) (merged_in party es so_far) at ∙ m.others p at;
    }

-- the logs of the first n parties, one after the other
abbrev pub joined_of : (ℕ → List EntryAt) → ℕ → List LineAt
joined_of logs zero = []
joined_of logs (suc n) = merged_in n (logs n) (joined_of logs n)

-- the list of all of them
pub all_joined : (logs : ℕ → List EntryAt) (clocks : ℕ → ℕ) → ((p : ℕ) → IsRising (clocks p) (logs p)) → (n : ℕ) → IsJoined (logs_below logs n) (joined_of logs n)
all_joined logs clocks rising zero = record { order = tt; parts = λ p. below_zero p }
  where
    below_zero : (p : ℕ) → [] ≡ (if nat_lt p zero then logs p else [])
    below_zero p = let not_below : nat_lt p zero ≡ false = grind (arith, nat_tests) in rw not_below
all_joined logs clocks rising (suc n) =
    let j : IsJoined (logs_below logs n) (joined_of logs n) = all_joined logs clocks rising n in
    let not_below : nat_lt n n ≡ false = grind (arith, nat_tests) in
    let none : part_of n (joined_of logs n) ≡ [] = j.parts n ∙ rw not_below in
    let m : IsMerged (joined_of logs n) n (logs n) (merged_in n (logs n) (joined_of logs n)) = merges (clocks n) n (logs n) (joined_of logs n) j.order none (rising n) in
    let k : IsJoined (put_log n (logs n) (logs_below logs n)) (merged_in n (logs n) (joined_of logs n)) = joined_more (logs_below logs n) (joined_of logs n) n (logs n) _ j m in
    record { order = k.order; parts = λ p. k.parts p ∙ one_more p (p == n) refl }
  where
    one_more : (p : ℕ) (b : Bool) → (p == n) ≡ b → (if b then logs n else if nat_lt p n then logs p else []) ≡ (if nat_lt p (suc n) then logs p else [])
    one_more p true at = let here : p ≡ n = eqb-true p n at in let below : nat_lt n (suc n) ≡ true = grind (arith, nat_tests) in rw (here, below)
    one_more p false at =
        let apart : p ≡ n → ⊥ = eqb-false p n at in
        let same : nat_lt p n ≡ nat_lt p (suc n) = same_tests p apart in
        rw same
      where
        same_tests : (p : ℕ) → (p ≡ n → ⊥) → nat_lt p n ≡ nat_lt p (suc n)
        same_tests p apart = grind (arith, nat_tests)
