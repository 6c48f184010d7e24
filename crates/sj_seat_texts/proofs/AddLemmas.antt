-- Words that are put into a table one after another.
use Rattle.std.proofs.Common.{if◌then◌else◌, ◌≡◌, ℕ, suc, nat_lt, Bool, true, false, List, [], ◌∷◌, ◌++◌, length, take, slice_get, Option, Some, None, refl, ap, sym, ◌∙◌, arith, subst, ltb-false}
use Rattle.std.specs.Prelude.{is_some}
use Rattle.sj_lang.specs.Words.{IsFirstIndex, first_index}
use Rattle.sj_lang.proofs.WordLemmas.{IsIndexed, indexed}
use Rattle.sj_seat_texts.specs.Once.{with_word, with_words}
use Rattle.sj_seat_texts.proofs.OnceLemmas.{get_more, get_within, take_next}

added_by : (word : List ℕ) (old new : List (List ℕ)) (n : ℕ) (b : Bool) (o : Option ℕ) → nat_lt n (length old) ≡ b → IsIndexed word old o → new ≡ (if b then old else old ++ word ∷ [])
    → IsFirstIndex word new n → new ≡ (if is_some o then old else old ++ word ∷ [])
added_by word old new n true (Some m) lt was is h = is
added_by word old new n true None lt was is h = absurd (was n (ap (λ t. slice_get t n) (sym is) ∙ h.here))
added_by word old new n false (Some m) ge was is h =
    let here = subst (λ (t : List (List ℕ)). IsFirstIndex word t n) is h in
    absurd (here.first m (omega (arith, get_within old m word was.here, ltb-false n (length old) ge)) (get_more old (word ∷ []) m word was.here))
added_by word old new n false None ge was is h = is

-- a word that is added is put where it isn't there
pub added_is : (word : List ℕ) (old new : List (List ℕ)) (n : ℕ) → IsFirstIndex word new n → new ≡ (if nat_lt n (length old) then old else old ++ word ∷ []) → new ≡ with_word old word
added_is word old new n h is = added_by word old new n (nat_lt n (length old)) (first_index word old) refl (indexed word old) is h

with_last : (table ws : List (List ℕ)) (w : List ℕ) → with_words table (ws ++ w ∷ []) ≡ with_word (with_words table ws) w
with_last table [] w = refl
with_last table (v ∷ ws) w = with_last (with_word table v) ws w

-- and so is the next one of several
pub added_next : (table all : List (List ℕ)) (k : ℕ) (word : List ℕ) (old new : List (List ℕ)) (n : ℕ) → slice_get all k ≡ Some word → old ≡ with_words table (take k all) → IsFirstIndex word new n
    → new ≡ (if nat_lt n (length old) then old else old ++ word ∷ []) → new ≡ with_words table (take (suc k) all)
added_next table all k word old new n at so_far h is =
    added_is word old new n h is
    ∙ ap (λ t. with_word t word) so_far
    ∙ sym (with_last table (take k all) word)
    ∙ ap (with_words table) (take_next k all word at)
