-- A word in a table.
use Rattle.std.proofs.Common.{◌≡◌, ℕ, zero, suc, ◌<◌, ◌≤◌, Bool, true, false, IsTrue, List, [], ◌∷◌, ◌++◌, length, get_or, Some, refl, ap, sym, subst, ◌∙◌, arith}
use Rattle.std.specs.Prelude.{if◌then◌else◌, ◌||◌, nat_lt}
use Rattle.std.specs.Str.{bytes_eq}
use Rattle.std.specs.List.{slice_get, list_any}
use Rattle.std.proofs.lemmas.Bool.{ltb-false}
use Rattle.std.proofs.lemmas.Option.{slice_get_within}
use Rattle.std.proofs.lemmas.Slice.Eq.{bytes_eq-Decides}
use Rattle.sj_lang.specs.Words.{IsFirstIndex}
use Rattle.sj_lang.specs.Limits.{limits}
use Rattle.sj_grammar.specs.Names.{is_name}
use Rattle.sj_grammar.specs.Tables.{with_entry, Spells, IsNamed}

pub got : (xs : List (List ℕ)) (n : ℕ) (s : List ℕ) → slice_get xs n ≡ Some s → get_or xs n [] ≡ s
got [] zero s e = cc
got [] (suc n) s e = cc
got (x ∷ xs) zero s e = cc
got (x ∷ xs) (suc n) s e = got xs n s e

any_of : (ws : List (List ℕ)) (n : ℕ) (s : List ℕ) → slice_get ws n ≡ Some s → list_any (λ w. bytes_eq w s) ws ≡ true
any_of [] zero s e = cc
any_of [] (suc n) s e = cc
any_of (w ∷ ws) zero s e = let same : bytes_eq w s ≡ true = (bytes_eq-Decides w s).1 cc in rw same refl
any_of (w ∷ ws) (suc n) s e = by_test (bytes_eq w s) (any_of ws n s e)
  where
    by_test : (b : Bool) → list_any (λ w. bytes_eq w s) ws ≡ true → (b || list_any (λ w. bytes_eq w s) ws) ≡ true
    by_test true h = refl
    by_test false h = h

none_of : (ws : List (List ℕ)) (s : List ℕ) → ((k : ℕ) → slice_get ws k ≡ Some s → ⊥) → list_any (λ w. bytes_eq w s) ws ≡ false
none_of [] s h = refl
none_of (w ∷ ws) s h = by_test (bytes_eq w s) refl (none_of ws s (λ k e. h (suc k) e))
  where
    by_test : (b : Bool) → bytes_eq w s ≡ b → list_any (λ w. bytes_eq w s) ws ≡ false → (b || list_any (λ w. bytes_eq w s) ws) ≡ false
    by_test true e n = absurd (h 0 (ap Some ((bytes_eq-Decides w s).0 e)))
    by_test false e n = n

push_before : (xs : List (List ℕ)) (y : List ℕ) (k : ℕ) → k < length xs → slice_get (xs ++ y ∷ []) k ≡ slice_get xs k
push_before [] y k h = absurd (omega arith)
push_before (x ∷ xs) y zero h = refl
push_before (x ∷ xs) y (suc k) h = push_before xs y k (omega arith)

pub table_is : (old new : List (List ℕ)) (s : List ℕ) (n : ℕ) → IsFirstIndex s new n → new ≡ (if nat_lt n (length old) then old else old ++ s ∷ []) → new ≡ with_entry old s
table_is old new s n first kept = by_test (nat_lt n (length old)) refl kept
  where
    by_test : (b : Bool) → nat_lt n (length old) ≡ b → new ≡ (if b then old else old ++ s ∷ []) → new ≡ with_entry old s
    by_test true eb e = rw (any_of old n s (subst (λ (ws : List (List ℕ)). slice_get ws n ≡ Some s) e first.here)) e
    by_test false eb e =
        let far : length old ≤ n = ltb-false n (length old) eb in
        let absent : (k : ℕ) → slice_get old k ≡ Some s → ⊥ = λ k h.
        let within : k < length old = slice_get_within old k s h in
        first.first k (omega arith) (ap (λ (ws : List (List ℕ)). slice_get ws k) e ∙ push_before old s k within ∙ h) in
        rw (none_of old s absent) e

pub within_is : (new : List (List ℕ)) (s : List ℕ) (n : ℕ) → IsFirstIndex s new n → n < length new
within_is new s n first = slice_get_within new n s first.here

pub here_is : (new : List (List ℕ)) (s : List ℕ) (n : ℕ) → IsFirstIndex s new n → get_or new n [] ≡ s
here_is new s n first = got new n s first.here

got_within : (xs : List (List ℕ)) (n : ℕ) → n < length xs → slice_get xs n ≡ Some (get_or xs n [])
got_within [] n h = absurd (omega arith)
got_within (x ∷ xs) zero h = refl
got_within (x ∷ xs) (suc n) h = got_within xs n (omega arith)

-- the number of a name, by each spelling that agrees with the table
pub named_by : (word : ℕ → List ℕ) (table : List (List ℕ)) (s : List ℕ) (n : ℕ) → Spells word table → IsFirstIndex s table n → IsTrue (is_name s) → length s ≤ 64 → (word n ≡ s) × IsNamed limits word n
named_by word table s n spells place name short =
    let far = within_is table s n place in
    let same : word n ≡ s = spells n far ∙ here_is table s n place in (
      same,
      record {
        name = subst (λ (x : List ℕ). IsTrue (is_name x)) (sym same) name;
        short = subst (λ (x : List ℕ). length x ≤ 64) (sym same) short;
        first = λ k h e. place.first k h (got_within table k (omega arith) ∙ ap Some (sym (spells k (omega arith)) ∙ e ∙ same));
      },
    )
