-- Tables of names and texts: where an entry stands first, and how a table grows while a file is read.
use Rattle.std.proofs.Common.{◌≡◌, ◌≢◌, ℕ, zero, suc, ◌+◌, ◌-◌, ◌<◌, ◌≤◌, Bool, true, false, cond, List, [], ◌∷◌, ◌++◌, length, take, drop, slice_get, Some, option_map, refl, ap, sym, ◌∙◌, arith, inl, inr}
use Rattle.std.specs.Prelude.{◌||◌}
use Rattle.std.specs.List.{list_any, list_all}
use Rattle.std.specs.Str.{bytes_eq}
use Rattle.std.proofs.lemmas.Bool.{cases_lt}
use Rattle.std.proofs.lemmas.List.{length-append, take-append-le, take_all}
use Rattle.std.proofs.lemmas.Option.{slice_get_within, slice_get-get_or, get_or_from_slice_get}
use Rattle.std.proofs.lemmas.Slice.Eq.{bytes_eq-Decides}
use Rattle.sj_lang.specs.Words.{first_index}
use Rattle.sj_grammar.specs.Bytes.{is_printable}
use Rattle.sj_grammar.specs.Literals.{inner, quoted, is_text}
use Rattle.sj_grammar.specs.Tables.{with_entry, entry_of, IsFirst}

-- the entry stands in the table
abbrev pub Stands : List (List ℕ) → List ℕ → Type 0
Stands table s = (k : ℕ) × (slice_get table k ≡ Some s)

-- what isn't empty stands in the table
pub entry_there : (table : List (List ℕ)) (n : ℕ) → 0 < length (entry_of table n) → slice_get table n ≡ Some (entry_of table n)
entry_there table n some = elim (cases_lt n (length table)) [
  | inl lt ↦ slice_get-get_or table n [] lt
  | inr le ↦ absurd (omega (arith, some, past table n le))
]
  where
    past : (table : List (List ℕ)) (n : ℕ) → length table ≤ n → length (entry_of table n) ≡ 0
    past [] n le = refl
    past (w ∷ ws) zero le = absurd (omega arith)
    past (w ∷ ws) (suc n) le = past ws n (omega arith)

-- a first number is no larger than where its entry stands, and so it stands there
pub first_there : (table : List (List ℕ)) (n : ℕ) → IsFirst (entry_of table) n → Stands table (entry_of table n) → slice_get table n ≡ Some (entry_of table n)
first_there table n first h =
    let inside : h.0 < length table = slice_get_within table h.0 (entry_of table n) h.1 in
    slice_get-get_or table n [] (elim (cases_lt h.0 n) [
      | inl lt ↦ absurd (first h.0 lt (get_or_from_slice_get table h.0 (entry_of table n) [] h.1))
      | inr le ↦ omega (arith, inside, le)
    ])

-- the number at which an entry stands first
pub index_there : (table : List (List ℕ)) (n : ℕ) (s : List ℕ) → slice_get table n ≡ Some s → ((k : ℕ) → k < n → entry_of table k ≢ s) → first_index s table ≡ Some n
index_there [] n s h first = cc
index_there (w ∷ ws) zero s h first =
    let same : w ≡ s = cc in
    ap (λ (b : Bool). cond b (Some 0) (option_map (λ n. suc n) (first_index s ws))) ((bytes_eq-Decides s w).1 (sym same))
index_there (w ∷ ws) (suc n) s h first = by (bytes_eq s w) refl (index_there ws n s h (λ k lt. first (suc k) (omega arith)))
  where
    by : (b : Bool) → bytes_eq s w ≡ b → first_index s ws ≡ Some n → cond b (Some 0) (option_map (λ n. suc n) (first_index s ws)) ≡ Some (suc n)
    by true is later = absurd (first 0 (omega arith) (sym ((bytes_eq-Decides s w).0 is)))
    by false is later = ap (option_map (λ n. suc n)) later

-- ---- growing

found_stands : (table : List (List ℕ)) (s : List ℕ) → list_any (λ w. bytes_eq w s) table ≡ true → Stands table s
found_stands [] s h = let none : ⊥ = cc in absurd none
found_stands (w ∷ ws) s h = by (bytes_eq w s) refl (found_stands ws s) h
  where
    by : (b : Bool) → bytes_eq w s ≡ b → (list_any (λ w. bytes_eq w s) ws ≡ true → Stands ws s) → (b || list_any (λ w. bytes_eq w s) ws) ≡ true → Stands (w ∷ ws) s
    by true is later k = (0, ap Some ((bytes_eq-Decides w s).0 is))
    by false is later k = let x = later k in (suc x.0, x.1)

last_stands : (table : List (List ℕ)) (s : List ℕ) → slice_get (table ++ s ∷ []) (length table) ≡ Some s
last_stands [] s = refl
last_stands (w ∷ ws) s = last_stands ws s

more_stands : (table more : List (List ℕ)) (k : ℕ) (s : List ℕ) → slice_get table k ≡ Some s → slice_get (table ++ more) k ≡ Some s
more_stands [] more k s h = cc
more_stands (w ∷ ws) more zero s h = h
more_stands (w ∷ ws) more (suc k) s h = more_stands ws more k s h

pub entry_stands : (table : List (List ℕ)) (s : List ℕ) → Stands (with_entry table s) s
entry_stands table s = by (list_any (λ w. bytes_eq w s) table) refl
  where
    by : (b : Bool) → list_any (λ w. bytes_eq w s) table ≡ b → Stands (cond b table (table ++ s ∷ [])) s
    by true is = found_stands table s is
    by false is = (length table, last_stands table s)

pub others_stand : (table : List (List ℕ)) (s t : List ℕ) → Stands table t → Stands (with_entry table s) t
others_stand table s t h = by (list_any (λ w. bytes_eq w s) table)
  where
    by : (b : Bool) → Stands (cond b table (table ++ s ∷ [])) t
    by true = h
    by false = (h.0, more_stands table (s ∷ []) h.0 t h.1)

pub one_longer : (table : List (List ℕ)) (s : List ℕ) → length (with_entry table s) ≤ length table + 1
one_longer table s = by (list_any (λ w. bytes_eq w s) table)
  where
    by : (b : Bool) → length (cond b table (table ++ s ∷ [])) ≤ length table + 1
    by true = omega arith
    by false = omega (arith, length-append table (s ∷ []))

-- ---- texts

-- a text without the quotes that it got
pub inner_is : (t : List ℕ) → inner (quoted t) ≡ t
inner_is t =
    let long : length (quoted t) - 1 ≡ length (34 ∷ t) = omega (arith, length-append t (34 ∷ [])) in
    (λ i. drop 1 (take (long i) (34 ∷ t ++ 34 ∷ []))) ∙ ap (drop 1) (take-append-le (length (34 ∷ t)) (34 ∷ t) (34 ∷ []) (omega arith) ∙ take_all (length (34 ∷ t)) (34 ∷ t) (omega arith))

-- printable bytes in quotes are a text
pub quotes_text : (t : List ℕ) → list_all is_printable t ≡ true → is_text (quoted t) ≡ true
quotes_text t h = rw (inner_is t) (rw ((bytes_eq-Decides (quoted t) (quoted t)).1 refl) h)
