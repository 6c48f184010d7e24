-- A merge from the front: what is merged so far, what is left of the lines, and what is left of the
-- log.
use Rattle.std.proofs.Common.{◌≡◌, ℕ, ◌<◌, inl, arith, List, [], ◌∷◌, ◌++◌, refl, sym, ap, ◌∙◌, append-nil, append_assoc}
use Rattle.std.specs.Prelude.{⊤, Bool, true, false, ◌==◌, map}
use Rattle.std.specs.List.{AllByRecursion}
use Rattle.std.proofs.lemmas.Bool.{eqb-true}
use Rattle.std.proofs.lemmas.List.Elements.{filter_map-append}
use Rattle.sj_rules.specs.Log.{EntryAt, LineAt, IsBefore, IsInOrder, IsRising, IsMerged, part_of, entry_at}
use Rattle.sj_joined_lemmas.proofs.OrderLemmas.{part_here, part_others}
use Rattle.sj_joined_lemmas.proofs.MergeLemmas.{line_at, all_later, rising_late}

-- a party's entries as lines
abbrev pub lines_at : ℕ → List EntryAt → List LineAt
lines_at party es = map (line_at party) es

-- before the first of these, if there is one
abbrev pub IsBeforeFirst : LineAt → List LineAt → Type 0
IsBeforeFirst k [] = ⊤
IsBeforeFirst k (l ∷ ls) = IsBefore k l

-- each of these is before each of those
abbrev pub AllBefore : List LineAt → List LineAt → Type 0
AllBefore ks ls = AllByRecursion (λ k. AllByRecursion (IsBefore k) ls) ks

-- so far these lines came out; the others are in order after them
pub record Merging (so_far : List LineAt) (party : ℕ) (log : List EntryAt) (out lines : List LineAt) (entries : List EntryAt) : Type 0 where
  pub order : IsInOrder out
  pub lines_behind : AllBefore out lines
  pub entries_behind : AllBefore out (lines_at party entries)
  pub lines_order : IsInOrder lines
  pub entries_order : IsInOrder (lines_at party entries)
  pub none : part_of party lines ≡ []
  pub own : part_of party out ++ entries ≡ log
  pub others : (p : ℕ) → (p == party) ≡ false → part_of p out ++ part_of p lines ≡ part_of p so_far

-- before the first means before all
before_all : (k : LineAt) (ls : List LineAt) → IsBeforeFirst k ls → IsInOrder ls → AllByRecursion (IsBefore k) ls
before_all k [] first order = tt
before_all k (l ∷ ls) first order = (first, all_later k l ls first order.0)

-- one more at the end
all_more : {X : Type 0} → (T : X → Type 0) (xs : List X) (x : X) → AllByRecursion T xs → T x → AllByRecursion T (xs ++ x ∷ [])
all_more T [] x all here = (here, tt)
all_more T (y ∷ ys) x all here = (all.0, all_more T ys x all.1 here)

-- a line after all others
order_more : (ks : List LineAt) (l : LineAt) → IsInOrder ks → AllByRecursion (λ k. IsBefore k l) ks → IsInOrder (ks ++ l ∷ [])
order_more [] l order all = (tt, tt)
order_more (k ∷ ks) l order all = (all_more (IsBefore k) ks l order.0 all.0, order_more ks l order.1 all.1)

-- all are before the first of these, and before the others
firsts : (ks ls : List LineAt) (l : LineAt) → AllBefore ks (l ∷ ls) → AllByRecursion (λ k. IsBefore k l) ks
firsts [] ls l all = tt
firsts (k ∷ ks) ls l all = (all.0.0, firsts ks ls l all.1)

-- and before the others
others_behind : (ks ls : List LineAt) (l : LineAt) → AllBefore ks (l ∷ ls) → AllBefore ks ls
others_behind [] ls l all = tt
others_behind (k ∷ ks) ls l all = (all.0.1, others_behind ks ls l all.1)

-- a party's part of two lists
pub part_more : (p : ℕ) (ks ls : List LineAt) → part_of p (ks ++ ls) ≡ part_of p ks ++ part_of p ls
part_more p ks ls = filter_map-append (entry_at p) ks ls

-- a party's entries are in order where their clocks rise
entries_in_order : (clock party : ℕ) (es : List EntryAt) → IsRising clock es → IsInOrder (lines_at party es)
entries_in_order clock party [] rising = tt
entries_in_order clock party (e ∷ es) rising =
    (later (line_at party e) es (rising_late e.clock e.clock es (grind arith) rising.1), entries_in_order e.clock party es rising.1)
  where
    later : (l : LineAt) (ds : List EntryAt) → AllByRecursion (λ d. l.entry.clock < d.clock) ds → AllByRecursion (IsBefore l) (lines_at party ds)
    later l [] all = tt
    later l (d ∷ ds) all = (inl all.0, later l ds all.1)

-- at the start nothing is merged
pub merging_begins : (clock : ℕ) (so_far : List LineAt) (party : ℕ) (log : List EntryAt) → IsInOrder so_far → part_of party so_far ≡ [] → IsRising clock log →
    Merging so_far party log [] so_far log
merging_begins clock so_far party log order none rising = record {
  order = tt;
  lines_behind = tt;
  entries_behind = tt;
  lines_order = order;
  entries_order = entries_in_order clock party log rising;
  none = none;
  own = refl;
  others = λ p at. refl;
}

module _ (so_far : List LineAt) (party : ℕ) (log : List EntryAt) (out : List LineAt) where
  -- the next line comes, where it is before the next entry
  pub line_comes : (l : LineAt) (lines : List LineAt) (entries : List EntryAt) → Merging so_far party log out (l ∷ lines) entries → IsBeforeFirst l (lines_at party entries) →
      Merging so_far party log (out ++ l ∷ []) lines entries
  line_comes l lines entries m first = record {
    order = order_more out l m.order (firsts out lines l m.lines_behind);
    lines_behind = all_more (λ k. AllByRecursion (IsBefore k) lines) out l (others_behind out lines l m.lines_behind) m.lines_order.0;
    entries_behind = all_more (λ k. AllByRecursion (IsBefore k) (lines_at party entries)) out l m.entries_behind
        (before_all l (lines_at party entries) first m.entries_order);
    lines_order = m.lines_order.1;
    entries_order = m.entries_order;
    none = sym (part_others party l lines not_own) ∙ m.none;
    own = ap (λ es. es ++ entries) (part_more party out (l ∷ []) ∙ ap (λ es. part_of party out ++ es) (part_others party l [] not_own) ∙ append-nil (part_of party out)) ∙ m.own;
    others = λ p at. ap (λ es. es ++ part_of p lines) (part_more p out (l ∷ [])) ∙ append_assoc (part_of p out) (part_of p (l ∷ [])) (part_of p lines)
        ∙ ap (λ es. part_of p out ++ es) (sym (part_more p (l ∷ []) lines)) ∙ m.others p at;
  }
    where
      not_own : (party == l.party) ≡ false
      not_own = by (party == l.party) refl
        where
          by : (b : Bool) → (party == l.party) ≡ b → b ≡ false
          by true at = absurd (cc (sym (part_here party l lines (eqb-true party l.party at)) ∙ m.none))
          by false at = refl

  -- the next entry comes, where it is before the next line
  pub entry_comes : (lines : List LineAt) (e : EntryAt) (entries : List EntryAt) → Merging so_far party log out lines (e ∷ entries) → IsBeforeFirst (line_at party e) lines →
      Merging so_far party log (out ++ line_at party e ∷ []) lines entries
  entry_comes lines e entries m first = record {
    order = order_more out (line_at party e) m.order (firsts out (lines_at party entries) (line_at party e) m.entries_behind);
    lines_behind = all_more (λ k. AllByRecursion (IsBefore k) lines) out (line_at party e) m.lines_behind (before_all (line_at party e) lines first m.lines_order);
    entries_behind = all_more (λ k. AllByRecursion (IsBefore k) (lines_at party entries)) out (line_at party e)
        (others_behind out (lines_at party entries) (line_at party e) m.entries_behind) m.entries_order.0;
    lines_order = m.lines_order;
    entries_order = m.entries_order.1;
    none = m.none;
    own = ap (λ es. es ++ entries) (part_more party out (line_at party e ∷ []) ∙ ap (λ es. part_of party out ++ es) (part_here party (line_at party e) [] refl))
        ∙ append_assoc (part_of party out) (e ∷ []) entries ∙ m.own;
    others = λ p at. ap (λ es. es ++ part_of p lines) (part_more p out (line_at party e ∷ []) ∙ ap (λ es. part_of p out ++ es) (part_others p (line_at party e) [] at)
        ∙ append-nil (part_of p out)) ∙ m.others p at;
  }

  -- at the end all is merged
  pub merging_ends : Merging so_far party log out [] [] → IsMerged so_far party log out
  merging_ends m = record {
    order = m.order;
    own = sym (append-nil (part_of party out)) ∙ m.own;
    others = λ p at. sym (append-nil (part_of p out)) ∙ m.others p at;
  }
