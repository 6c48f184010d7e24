-- Each file has one text by `forest`.
use Rattle.std.proofs.Common.{◌≡◌, ◌≢◌, ◌∙◌, ◌⊎◌, ◌<◌, ◌≤◌, ℕ, zero, suc, nat_lt, Bool, true, false, List, [], ◌∷◌, ◌++◌, length, map, replicate, slice_set, Option, Some, None, Result, Ok, Err, IfOk, inl, inr, ap, sym, refl, subst, arith}
use Rattle.std.specs.Prelude.{codes, decimal}
use mathlib.Core.Path.{fun_ext}
use Rattle.std.proofs.lemmas.Bool.{cases_Bool, cases_lt, cases_eq}
use Rattle.std.proofs.lemmas.List.{length-set, length-replicate}
use Rattle.sj_lang.specs.FileAt.{FileAt}
use Rattle.sj_semantics.specs.Lines.{line_of, name_of}
use Rattle.sj_semantics_laws.specs.Openless.{IsOpenless}
use Rattle.sj_forest_laws.specs.Forest.{AreLeft, AreTaken, IsForest, edges_at, edges_of, nobody}
use Rattle.sj_forest_laws.specs.Opens.{first_opening}
use Rattle.sj_forest_laws.proofs.OrderLemmas.{same_left, taken_one_more}
use Rattle.sj_forest.specs.Left.{left_in, those_left}
use Rattle.sj_forest.specs.Shape.{IsCycle}
use Rattle.sj_forest.proofs.LeftLemmas.{all_marked, fewer_marks, left_same, mark_off, marked_within, marks, none_listed}
use Rattle.sj_forest_laws.proofs.OpensLemmas.{none_is_first, openless_from}
use Rattle.sj_forest.proofs.ShapeLemmas.{cycle_is_none}
use Rattle.sj_tool.specs.ForestTexts.{IsForestText, spaced_line}

-- ---- parties can be taken away until each that is left has two remaining edges

-- of n parties one that can be taken away, or none
abbrev CanBeTaken : List (ℕ × ℕ) → (ℕ → Bool) → ℕ → Type 0
CanBeTaken edges left p = (left p ≡ true) × (edges_at edges left p ≤ 1)

abbrev AllStay : List (ℕ × ℕ) → (ℕ → Bool) → ℕ → Type 0
AllStay edges left n = (p : ℕ) → p < n → left p ≡ true → 2 ≤ edges_at edges left p

one_or_none : (edges : List (ℕ × ℕ)) (left : ℕ → Bool) (n : ℕ) → ((p : ℕ) × CanBeTaken edges left p) ⊎ AllStay edges left n
one_or_none edges left zero = inr (λ p below it. absurd (let no : ⊥ = omega (arith, below) in no))
one_or_none edges left (suc n) = by (one_or_none edges left n) (cases_Bool (left n)) (cases_lt 1 (edges_at edges left n))
  where
    stays : AllStay edges left n → (left n ≡ true → 2 ≤ edges_at edges left n) → AllStay edges left (suc n)
    stays below at p lt it =
        elim (cases_eq p n) [
          | inl same ↦ subst (λ (q : ℕ). 2 ≤ edges_at edges left q) (sym same) (at (ap left (sym same) ∙ it))
          | inr other ↦ below p (omega (arith, lt, other)) it
        ]

    by : ((p : ℕ) × CanBeTaken edges left p) ⊎ AllStay edges left n → (left n ≡ true) ⊎ (left n ≡ false) → (1 < edges_at edges left n) ⊎ (edges_at edges left n ≤ 1) → ((p : ℕ) × CanBeTaken edges left p) ⊎ AllStay edges left (suc n)
    by (inl x) b e = inl x
    by (inr below) (inl it) (inr few) = inl (n, (it, few))
    by (inr below) (inl it) (inl many) = inr (stays below (λ _. omega (arith, many)))
    by (inr below) (inr off) e = inr (stays below (λ it. absurd (let no : true ≡ false = sym it ∙ off in let bad : ⊥ = cc in bad)))

-- marks of those that are left in the end, and the order in which the others went
record EndsWith (edges : List (ℕ × ℕ)) (start : ℕ → Bool) (n : ℕ) : Type 0 where
  last : List Bool
  count : length last ≡ n
  order : List ℕ
  taken : AreTaken edges start order (left_in last)
  stay : AllStay edges (left_in last) n

ended : (edges : List (ℕ × ℕ)) (start : ℕ → Bool) (n : ℕ) (bs : List Bool) (ps : List ℕ) → length bs ≡ n → AreTaken edges start ps (left_in bs)
    → ((p : ℕ) → CanBeTaken edges (left_in bs) p → EndsWith edges start n) → ((p : ℕ) × CanBeTaken edges (left_in bs) p) ⊎ AllStay edges (left_in bs) n → EndsWith edges start n
ended edges start n bs ps count taken more (inl (p, can)) = more p can
ended edges start n bs ps count taken more (inr stay) = record { last = bs; count = count; order = ps; taken = taken; stay = stay }

take_all : (edges : List (ℕ × ℕ)) (start : ℕ → Bool) (n fuel : ℕ) (bs : List Bool) (ps : List ℕ) → length bs ≡ n → marks bs ≤ fuel → AreTaken edges start ps (left_in bs) → EndsWith edges start n
take_all edges start n zero bs ps count few taken =
    ended edges start n bs ps count taken (λ p can. absurd (let no : ⊥ = omega (arith, few, fewer_marks bs p can.0) in no)) (one_or_none edges (left_in bs) n)
take_all edges start n (suc fuel) bs ps count few taken =
    ended edges start n bs ps count taken
    (λ p can. take_all edges start n fuel (slice_set bs p false) (ps ++ p ∷ []) (length-set bs p false ∙ count) (omega (arith, few, fewer_marks bs p can.0))
    (taken_one_more edges start ps (left_in bs) p (left_in (slice_set bs p false)) taken can.0 can.1 (mark_off bs p)))
    (one_or_none edges (left_in bs) n)

-- of n parties some are left, or nobody
all_ended : (edges : List (ℕ × ℕ)) (n : ℕ) → EndsWith edges (λ p. nat_lt p n) n
all_ended edges n = take_all edges (λ p. nat_lt p n) n (marks (replicate n true)) (replicate n true) [] (length-replicate n true) (omega arith) (all_marked n)

ended_left : (edges : List (ℕ × ℕ)) (n : ℕ) (e : EndsWith edges (λ p. nat_lt p n) n) → AreLeft edges n (left_in e.last)
ended_left edges n e = record {
  order = e.order;
  taken = e.taken;
  stay = λ p it. e.stay p (let below = marked_within e.last p it in omega (arith, below, e.count)) it;
}

-- ---- each file has a text

empty_or_not : (xs : List ℕ) → (xs ≡ []) ⊎ (xs ≢ [])
empty_or_not [] = inl refl
empty_or_not (x ∷ xs) = inr (λ e. let no : ⊥ = cc in no)

opens_or_none : (file : FileAt) → ((line : ℕ) × (first_opening file ≡ Some line)) ⊎ (first_opening file ≡ None)
opens_or_none file = by (first_opening file) refl
  where
    by : (o : Option ℕ) → first_opening file ≡ o → ((line : ℕ) × (first_opening file ≡ Some line)) ⊎ (first_opening file ≡ None)
    by (Some line) e = inl (line, e)
    by None e = inr e

pub has_forest_text : (file : FileAt) → (text : List ℕ) × IsForestText file text
has_forest_text file = by (opens_or_none file)
  where
    e : EndsWith (edges_of file) (λ p. nat_lt p (length file.parties)) (length file.parties)
    e = all_ended (edges_of file) (length file.parties)

    those : List ℕ
    those = those_left (left_in e.last) 0 (length file.parties)

    left : IsOpenless file → (those ≡ []) ⊎ (those ≢ []) → (text : List ℕ) × IsForestText file text
    left openless (inl none) =
        let nobody_is : (p : ℕ) → left_in e.last p ≡ nobody p = none_listed e.last (ap (those_left (left_in e.last) 0) e.count ∙ none) in
        let forest : IsForest file = record {
          none_left = left_same (edges_of file) (length file.parties) (left_in e.last) nobody nobody_is (ended_left (edges_of file) (length file.parties) e);
          openless = openless;
        } in
        (line_of (codes "forest" ∷ codes "yes" ∷ []), inr (inr (forest, refl)))
    left openless (inr some) =
        let cycle : IsCycle those file = record {
          openless = openless;
          left = left_in e.last;
          are_left = ended_left (edges_of file) (length file.parties) e;
          listed = refl;
          some_one = some;
        } in
        (codes "forest no" ++ spaced_line (map (name_of file) those), inr (inl (those, cycle, refl)))

    by : ((line : ℕ) × (first_opening file ≡ Some line)) ⊎ (first_opening file ≡ None) → (text : List ℕ) × IsForestText file text
    by (inl (line, it)) = (line_of (codes "forest" ∷ codes "opens" ∷ decimal line ∷ []), inl (line, it, refl))
    by (inr none) = left (openless_from file none) (empty_or_not those)

-- ---- and one alone

one_cycle : (file : FileAt) (xs ys : List ℕ) → IsCycle xs file → IsCycle ys file → xs ≡ ys
one_cycle file xs ys a b =
    let same : a.left ≡ b.left = fun_ext (same_left (edges_of file) (length file.parties) a.left b.left a.are_left b.are_left) in
    a.listed ∙ ap (λ l. those_left l 0 (length file.parties)) same ∙ sym b.listed

not_both : (file : FileAt) (line : ℕ) → first_opening file ≡ Some line → IsOpenless file → ⊥
not_both file line opens openless =
    let both : Some line ≡ None = sym opens ∙ none_is_first file openless in let no : ⊥ = cc in no

pub one_forest_text : (file : FileAt) (s t : List ℕ) → IsForestText file s → IsForestText file t → s ≡ t
one_forest_text file s t (inl (line, x, e)) (inl (other, y, d)) =
    let same : line ≡ other = let both : Some line ≡ Some other = sym x ∙ y in cc in
    e ∙ ap (λ n. line_of (codes "forest" ∷ codes "opens" ∷ decimal n ∷ [])) same ∙ sym d
one_forest_text file s t (inl (line, x, e)) (inr (inl (ys, y, d))) = absurd (not_both file line x y.openless)
one_forest_text file s t (inl (line, x, e)) (inr (inr (y, d))) = absurd (not_both file line x y.openless)
one_forest_text file s t (inr (inl (xs, x, e))) (inl (other, y, d)) = absurd (not_both file other y x.openless)
one_forest_text file s t (inr (inl (xs, x, e))) (inr (inl (ys, y, d))) =
    e ∙ ap (λ ns. codes "forest no" ++ spaced_line (map (name_of file) ns)) (one_cycle file xs ys x y) ∙ sym d
one_forest_text file s t (inr (inl (xs, x, e))) (inr (inr (y, d))) = absurd (cycle_is_none xs file x y)
one_forest_text file s t (inr (inr (x, e))) (inl (other, y, d)) = absurd (not_both file other y x.openless)
one_forest_text file s t (inr (inr (x, e))) (inr (inl (ys, y, d))) = absurd (cycle_is_none ys file y x)
one_forest_text file s t (inr (inr (x, e))) (inr (inr (y, d))) = e ∙ sym d

-- ---- what the shape of a file reports

module _ {V E : Type 0} (items : V → List ℕ) (file : FileAt) where
  pub opens_answer : (line : ℕ) (r : Result V E) → first_opening file ≡ Some line → IfOk r (λ t. items t ≡ line_of (codes "forest" ∷ codes "opens" ∷ decimal line ∷ [])) → IfOk r (λ t. IsForestText file (items t))
  opens_answer line (Ok t) is e = inl (line, is, e)
  opens_answer line (Err x) is e = tt

  pub left_answer : (numbers : List ℕ) (r : Result V E) → IsCycle numbers file → IfOk r (λ t. items t ≡ codes "forest no" ++ spaced_line (map (name_of file) numbers)) → IfOk r (λ t. IsForestText file (items t))
  left_answer numbers (Ok t) is e = inr (inl (numbers, is, e))
  left_answer numbers (Err x) is e = tt
