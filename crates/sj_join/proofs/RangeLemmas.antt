-- Texts that are made one after another, one for each number.
use Rattle.std.proofs.Common.{◌≡◌, ◌<◌, ◌⊎◌, ℕ, ◌+◌, List, [], ◌∷◌, ◌++◌, Vec, inl, inr, length, map, sym, ap, subst, ◌∙◌, arith}
use Rattle.std.proofs.lemmas.List.{length-map, map-append}
use Rattle.std.proofs.lemmas.List.Folds.{list_all-map}
use Rattle.std.proofs.lemmas.List.FromFn.{length-map-range_with_len, map-range_with_len_more}
use Rattle.std.specs.List.{list_all, range_with_len}
use Rattle.std.specs.declared.alloc.Global.{Global}
use Rattle.sj_streams.specs.Views.{came_view}
use Rattle.sj_streams.specs.Words.{words_at}
use Rattle.sj_streams.specs.declared.replies.Came.{Came}
use Rattle.sj_join.specs.Texts.{has_all, has_all_if, has_lines}

-- one more is there
pub next_text : (f : ℕ → List ℕ) (n : ℕ) (old new : List (Vec ℕ Global)) (v : Vec ℕ Global) →
    map (λ t. t.items) old ≡ map f (range_with_len 0 n) → v.items ≡ f n → new ≡ old ++ v ∷ [] → map (λ t. t.items) new ≡ map f (range_with_len 0 (n + 1))
next_text f n old new v so_far text grown =
    ap (map (λ t. t.items)) grown ∙ map-append (λ t. t.items) old (v ∷ []) ∙ ap (λ (ts : List (List ℕ)). ts ++ v.items ∷ []) so_far
    ∙ ap (λ (t : List ℕ). map f (range_with_len 0 n) ++ t ∷ []) text ∙ sym (map-range_with_len_more f 0 n n (omega arith))

-- so many are there
pub text_count : (f : ℕ → List ℕ) (n : ℕ) (texts : List (Vec ℕ Global)) → map (λ t. t.items) texts ≡ map f (range_with_len 0 n) → length texts ≡ n
text_count f n texts all = sym (length-map texts (λ t. t.items)) ∙ ap length all ∙ length-map-range_with_len f 0 n

before_or : (n k : ℕ) → k < n + 1 → (k < n) ⊎ (k ≡ n)
before_or n k less = grind (arith, less)

-- what is so of all numbers below one, and of that one, is so of all below the next
pub up_to_next : (P : ℕ → Type 0) (n : ℕ) → ((k : ℕ) → k < n → P k) → P n → (k : ℕ) → k < n + 1 → P k
up_to_next P n below at k less = elim (before_or n k less) [ inl lt ↦ below k lt | inr same ↦ subst P (sym same) at ]

pub ruleset text_counts = (text_count)

-- by their views
pub seen_all : (party : ℕ) (came : List Came) → has_all (map came_view came) party ≡ list_all (λ c. has_all_if party (came_view c)) came
seen_all party came = list_all-map (has_all_if party) came_view came

pub seen_entries : (entries : List (Vec (Vec ℕ Global) Global)) → list_all has_lines (map (λ e. words_at e.items) entries) ≡ list_all (λ e. has_lines (words_at e.items)) entries
seen_entries entries = list_all-map has_lines (λ e. words_at e.items) entries

pub ruleset views = (seen_all, seen_entries)
