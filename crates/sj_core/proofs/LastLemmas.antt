-- The logs of a list: whose entry comes last, that none is beyond the list, and what is left where
-- it is taken off.
use Rattle.std.proofs.Common.{zero, suc, ◌≡◌, ◌+◌, ◌<◌, ◌≤◌, ℕ, List, [], ◌∷◌, ◌++◌, length, length-append, add-one, get_or, take, map, refl, sym, ap, subst, ◌∙◌, inl, inr, arith}
use Rattle.std.specs.Prelude.{◌⊎◌, Option, Some, None, reverse, slice_get}
use Rattle.std.specs.Global.{Vec}
use Rattle.std.specs.Option.{SomeIff}
use Rattle.std.proofs.Math.ListN.{set}
use Rattle.std.proofs.lemmas.List.{length-map, map-append, map-set, reverse-append, reverse-reverse, take_all, take_more}
use Rattle.std.proofs.lemmas.Option.{slice_get_past}
use Rattle.sj_rules.specs.Log.{EntryAt}
use Rattle.sj_end.specs.declared.note.Entry.{Entry}
use Rattle.sj_end.specs.declared.note.Line.{Line}
use Rattle.sj_core.specs.declared.tails.Tail.{Tail}
use Rattle.sj_core.specs.Given.{count_given, entries_given, given_log, line_by}
use Rattle.sj_core.specs.Tails.{IsLast, first_clock, last_clocks, later_at}
use Rattle.sj_core.specs.Views.{entry_at, line_at, line_of}
use Rattle.sj_core.proofs.GivenLemmas.{Giving, giving_more}
use Rattle.sj_core.proofs.TailLemmas.{IsEnd, IsLatest, end_of_more}

-- a list with another value there
set_here : {X : Type 0} → (xs : List X) (p : ℕ) (x : X) → p < length xs → slice_get (set xs p x) p ≡ Some x
set_here [] p x lt = absurd (omega arith)
set_here (y ∷ ys) zero x lt = refl
set_here (y ∷ ys) (suc p) x lt = set_here ys p x (omega arith)

set_there : {X : Type 0} → (xs : List X) (p q : ℕ) (x : X) → (q ≡ p → ⊥) → slice_get (set xs p x) q ≡ slice_get xs q
set_there [] p q x apart = refl
set_there (y ∷ ys) zero zero x apart = absurd (apart refl)
set_there (y ∷ ys) zero (suc q) x apart = refl
set_there (y ∷ ys) (suc p) zero x apart = refl
set_there (y ∷ ys) (suc p) (suc q) x apart = set_there ys p q x (λ h. apart (ap suc h))

below_or_past : (n q : ℕ) → (q < n) ⊎ (n ≤ q)
below_or_past n q = grind arith

-- the logs read from their ends
abbrev pub back_of : List (Vec Entry) → ℕ → List EntryAt
back_of logs p = reverse (given_log logs p)

-- a list read from its end begins with its last
back_begins : (es : List EntryAt) (e : EntryAt) → reverse (es ++ e ∷ []) ≡ e ∷ reverse es
back_begins es e = reverse-append es (e ∷ [])

-- and one whose reading begins so ends so
back_ends : (ds es : List EntryAt) (e : EntryAt) → reverse ds ≡ e ∷ es → ds ≡ reverse es ++ e ∷ []
back_ends ds es e is = sym (reverse-reverse ds) ∙ ap reverse is ∙ reverse-append (e ∷ []) es

-- a clock for each log
pub length-last_clocks : (logs : List (Vec Entry)) → length (last_clocks logs) ≡ length logs
length-last_clocks logs = length-map logs (λ (log : Vec Entry). first_clock (reverse (map entry_at log.items)))

-- the clocks of last entries are there as the logs are
clock_at : (logs : List (Vec Entry)) (k : ℕ) (d : Option ℕ) → k < length (last_clocks logs) → get_or (last_clocks logs) k d ≡ first_clock (back_of logs k)
clock_at [] k d lt = absurd (omega (arith, lt))
clock_at (x ∷ xs) zero d lt = refl
clock_at (x ∷ xs) (suc k) d lt = clock_at xs k d (omega (arith, lt))

-- of a list, with its next log
pub later_next : (logs : List (Vec Entry)) (clocks : List (Option ℕ)) (k : ℕ) (d : Option ℕ) (latest next : Option Tail) → clocks ≡ last_clocks logs → k < length clocks → IsEnd (back_of logs) k latest →
    next ≡ later_at latest k (get_or clocks k d) → IsEnd (back_of logs) (k + 1) next
later_next logs clocks k d latest next are lt l is =
    let here : get_or clocks k d ≡ first_clock (back_of logs k) =
    ap (λ (cs : List (Option ℕ)). get_or cs k d) are ∙ clock_at logs k d (subst (λ (cs : List (Option ℕ)). k < length cs) are lt) in
    subst (IsEnd (back_of logs) (k + 1)) (sym (is ∙ ap (later_at latest k) here)) (end_of_more (back_of logs) k latest l)

-- the clocks of one log more
pub clocks_more : (logs : List (Vec Entry)) (i : ℕ) (d : Vec Entry) (es : List Entry) (before after : List (Option ℕ)) (own : Option ℕ) → i < length logs → es ≡ (get_or logs i d).items →
    before ≡ last_clocks (take i logs) → own ≡ first_clock (reverse (map entry_at es)) → after ≡ before ++ own ∷ [] → after ≡ last_clocks (take (i + 1) logs)
clocks_more logs i d es before after own lt here so_far same put =
    let clock : own ≡ first_clock (reverse (map entry_at (get_or logs i d).items)) = same ∙ ap (λ (ds : List Entry). first_clock (reverse (map entry_at ds))) here in
    put ∙ ap (λ (cs : List (Option ℕ)). cs ++ own ∷ []) so_far ∙ ap (λ (o : Option ℕ). last_clocks (take i logs) ++ o ∷ []) clock
    ∙ sym (map-append (λ (log : Vec Entry). first_clock (reverse (map entry_at log.items))) (take i logs) (get_or logs i d ∷ []))
    ∙ sym (ap last_clocks (take_more logs i d lt))

-- one log's clock is the one that changes
pub clocks_set : (logs : List (Vec Entry)) (p : ℕ) (c : Vec Entry) → last_clocks (set logs p c) ≡ set (last_clocks logs) p (first_clock (reverse (map entry_at c.items)))
clocks_set logs p c = map-set (λ (log : Vec Entry). first_clock (reverse (map entry_at log.items))) logs p c

-- beyond the list there is no log
past_given : (logs : List (Vec Entry)) (q : ℕ) → length logs ≤ q → given_log logs q ≡ []
past_given logs q le = ap entries_given (slice_get_past logs q le)

module _ (logs : List (Vec Entry)) (k : ℕ) (all : length logs ≤ k) where
  -- of all logs, the tail is the last one
  pub last_is : (tail : Tail) → IsLatest (back_of logs) k tail → IsLast (given_log logs) tail.party
  last_is tail f = record {
    before = reverse f.more;
    entry = f.entry;
    own = back_ends (given_log logs tail.party) f.more f.entry f.own;
    last = λ q es e apart is.
        let begins : back_of logs q ≡ e ∷ reverse es = ap reverse is ∙ back_begins es e in
        elim (below_or_past k q) [
          | inl t ↦ f.last q e (reverse es) t apart begins
          | inr t ↦ absurd (let no : [] ≡ e ∷ reverse es = sym (ap reverse (past_given logs q (omega (arith, all, t)))) ∙ begins in cc no)
        ];
  }

  pub none_last : ((q : ℕ) → q < k → back_of logs q ≡ []) → (q : ℕ) → given_log logs q ≡ []
  none_last none q =
      elim (below_or_past k q) [
        | inl t ↦ sym (reverse-reverse (given_log logs q)) ∙ ap reverse (none q t)
        | inr t ↦ past_given logs q (omega (arith, all, t))
      ]

-- one entry is gone
count_less : (logs : List (Vec Entry)) (p : ℕ) (b c : Vec Entry) → slice_get logs p ≡ Some b → length c.items + 1 ≡ length b.items → count_given (set logs p c) + 1 ≡ count_given logs
count_less [] p b c there less = absurd (cc there)
count_less (x ∷ xs) zero b c there less =
    let same : length x.items ≡ length b.items = ap (λ (y : Vec Entry). length y.items) (let it : x ≡ b = cc there in it) in
    omega (arith, same, less)
count_less (x ∷ xs) (suc p) b c there less = let more : count_given (set xs p c) + 1 ≡ count_given xs = count_less xs p b c there less in omega (arith, more)

-- the entries of the first logs, with the next
count_next : (logs : List (Vec Entry)) (i : ℕ) (d : Vec Entry) → i < length logs → count_given (take (suc i) logs) ≡ count_given (take i logs) + length (get_or logs i d).items
count_next [] i d lt = absurd (omega (arith, lt))
count_next (x ∷ xs) zero d lt = omega arith
count_next (x ∷ xs) (suc i) d lt = let more = count_next xs i d (omega (arith, lt)) in omega (arith, more)

-- as a sum that didn't go past its end
pub count_more : (logs : List (Vec Entry)) (i entries sum : ℕ) (d : Vec Entry) (len : ℕ) (added : Option ℕ) (P : Type 0) → i < length logs → len ≡ length (get_or logs i d).items → entries ≡ count_given (take i logs) →
    SomeIff added P (entries + len) → added ≡ Some sum → sum ≡ count_given (take (i + 1) logs)
count_more logs i entries sum d len None P lt own so_far added is = absurd (cc is)
count_more logs i entries sum d len (Some n) P lt own so_far added is =
    let same : n ≡ sum = cc is in
    sym same ∙ added.1 ∙ ap (λ m. entries + m) own ∙ ap (λ m. m + length (get_or logs i d).items) so_far ∙ sym (ap (λ m. count_given (take m logs)) (add-one i) ∙ count_next logs i d lt)

-- all of them
pub count_all : (logs : List (Vec Entry)) (i : ℕ) → length logs ≤ i → count_given (take i logs) ≡ count_given logs
count_all logs i le = ap count_given (take_all i logs le)

-- lists that end alike are alike before
ends_alike : (cs ds : List EntryAt) (c d : EntryAt) → cs ++ c ∷ [] ≡ ds ++ d ∷ [] → (c ≡ d) × (cs ≡ ds)
ends_alike cs ds c d is =
    let both : c ∷ reverse cs ≡ d ∷ reverse ds = sym (back_begins cs c) ∙ ap reverse is ∙ back_begins ds d in
    let rest : reverse cs ≡ reverse ds = cc both in
    (cc both, sym (reverse-reverse cs) ∙ ap reverse rest ∙ reverse-reverse ds)

module _ (logs : List (Vec Entry)) (p : ℕ) (n : IsLast (given_log logs) p) where
  -- the log that ends last is in the list
  pub last_within : p < length logs
  last_within = elim (below_or_past (length logs) p) [
    | inl t ↦ t
    | inr t ↦ absurd (none_with n.before n.entry (sym n.own ∙ past_given logs p t))
  ]
    where
      none_with : (es : List EntryAt) (e : EntryAt) → es ++ e ∷ [] ≡ [] → ⊥
      none_with [] e is = cc is
      none_with (d ∷ ds) e is = cc is

  module _ (b : Vec Entry) (there : slice_get logs p ≡ Some b) where
    entries : map entry_at b.items ≡ n.before ++ n.entry ∷ []
    entries = sym (ap entries_given there) ∙ n.own

    -- its last entry is taken off
    module _ (x : Entry) (c : Vec Entry) (cut : b.items ≡ c.items ++ x ∷ []) where
      alike : (entry_at x ≡ n.entry) × (map entry_at c.items ≡ n.before)
      alike = ends_alike (map entry_at c.items) n.before (entry_at x) n.entry (sym (map-append entry_at c.items (x ∷ [])) ∙ ap (map entry_at) (sym cut) ∙ entries)

      pub counted : count_given (set logs p c) + 1 ≡ count_given logs
      counted = count_less logs p b c there (sym (length-append c.items (x ∷ [])) ∙ ap (λ (es : List Entry). length es) (sym cut))

      -- and comes out as a line
      pub given_next : (all : ℕ → List EntryAt) (out : List Line) → Giving all (given_log logs) (map line_at (reverse out)) →
          Giving all (given_log (set logs p c)) (map line_at (reverse (out ++ line_of p x ∷ [])))
      given_next all out g =
          subst (λ ls. Giving all (given_log (set logs p c)) ls)
          (sym (ap (map line_at) (reverse-append out (line_of p x ∷ [])) ∙ ap (λ (e : EntryAt). line_by p e ∷ map line_at (reverse out)) alike.0))
          (giving_more all (given_log logs) (given_log (set logs p c)) (map line_at (reverse out)) p g n (ap entries_given (set_here logs p c last_within) ∙ alike.1)
          (λ q apart. ap entries_given (set_there logs p q c apart)))
