-- What is spelt is read.
use Rattle.std.proofs.Common.{◌≡◌, ℕ, suc, ◌+◌, true, false, eqb, List, [], ◌∷◌, ◌++◌, length, get_or, map, refl, sym, ap, ◌∙◌, append_assoc, arith}
use Rattle.std.specs.List.{AllByRecursion, flat_map}
use Rattle.std.specs.Str.{bytes_eq}
use Rattle.std.proofs.lemmas.Bool.{lt-ltb, ne_eqb}
use Rattle.std.proofs.lemmas.Slice.Eq.{bytes_eq-Decides}
use Rattle.sj_resp.specs.Token.{TokenAt, Bulk, Array}
use Rattle.sj_streams.specs.Keys.{id_text}
use Rattle.sj_streams.specs.Reading.{Read, Good, CameAt, word_at, pair_at, many_at, words_in, entry_at, known_at, stream_at, came_at}
use Rattle.sj_streams.specs.Replies.{IsNext, entry_tokens, entries_tokens, stream_tokens, came_tokens}

same_bytes : (w : List ℕ) → bytes_eq w w ≡ true
same_bytes w = (bytes_eq-Decides w w).1 refl

not_none : (n : ℕ) → eqb (suc n) 0 ≡ false
not_none n = ne_eqb (suc n) 0 (λ e. omega (arith, e))

module _ {A : Type 0} (read : ℕ → List TokenAt → Read A) (text : ℕ → A → List TokenAt) (P : A → Type 0) where
  -- the texts of values, from that number on
  texts : ℕ → List A → List TokenAt
  texts from [] = []
  texts from (x ∷ xs) = text from x ++ texts (from + 1) xs

  many_again : ((n : ℕ) (x : A) (rest : List TokenAt) → P x → read n (text n x ++ rest) ≡ Good x rest) → (from : ℕ) (xs : List A) (rest : List TokenAt) → AllByRecursion P xs → many_at read from (length xs) (texts from xs ++ rest) ≡ Good xs rest
  unfolding many_at texts
  many_again one from [] rest all = refl
  many_again one from (x ∷ xs) rest all =
      let apart = append_assoc (text from x) (texts (from + 1) xs) rest in
      rw (apart, one from x (texts (from + 1) xs ++ rest) all.0, many_again one (from + 1) xs rest all.1) refl

all_true : {A : Type 0} (xs : List A) → AllByRecursion (λ _. Unit {0}) xs
all_true [] = tt
all_true (x ∷ xs) = (tt, all_true xs)

words_texts : (from : ℕ) (ws : List (List ℕ)) → texts (λ _. word_at) (λ _ w. Bulk w ∷ []) (λ _. Unit {0}) from ws ≡ map Bulk ws
unfolding texts
words_texts from [] = refl
words_texts from (w ∷ ws) = ap (λ (l : List TokenAt). Bulk w ∷ l) (words_texts (from + 1) ws)

words_again : (ws : List (List ℕ)) (rest : List TokenAt) → words_in (length ws) (map Bulk ws ++ rest) ≡ Good ws rest
words_again ws rest =
    ap (λ (l : List TokenAt). words_in (length ws) (l ++ rest)) (sym (words_texts 0 ws)) ∙ many_again (λ _. word_at) (λ _ w. Bulk w ∷ []) (λ _. Unit {0}) (λ n w r u. refl) 0 ws rest (all_true ws)

entry_again : (n : ℕ) (ws : List (List ℕ)) (rest : List TokenAt) → entry_at n (entry_tokens n ws ++ rest) ≡ Good ws rest
unfolding entry_at pair_at
entry_again n ws rest = rw (same_bytes (id_text n)) (words_again ws rest)

entries_texts : (from : ℕ) (es : List (List (List ℕ))) → texts entry_at entry_tokens (λ _. Unit {0}) from es ≡ entries_tokens from es
unfolding texts
entries_texts from [] = refl
entries_texts from (e ∷ es) = ap (λ (l : List TokenAt). entry_tokens from e ++ l) (entries_texts (from + 1) es)

entries_again : (from : ℕ) (es : List (List (List ℕ))) (rest : List TokenAt) → many_at entry_at from (length es) (entries_tokens from es ++ rest) ≡ Good es rest
entries_again from es rest =
    ap (λ (l : List TokenAt). many_at entry_at from (length es) (l ++ rest)) (sym (entries_texts from es)) ∙ many_again entry_at entry_tokens (λ _. Unit {0}) (λ n ws r u. entry_again n ws r) from es rest (all_true es)

known_again : (keys : List (List ℕ)) (seen : List ℕ) (c : CameAt) (rest : List TokenAt) → IsNext keys seen c → known_at keys seen c.stream (Array (length c.entries) ∷ (entries_tokens c.first c.entries ++ rest)) ≡ Good c rest
unfolding known_at
known_again keys seen c rest next =
    let all : many_at entry_at (get_or seen c.stream 0 + 1) (length c.entries) (entries_tokens c.first c.entries ++ rest) ≡ Good c.entries rest =
    ap (λ n. many_at entry_at n (length c.entries) (entries_tokens c.first c.entries ++ rest)) (sym next.first) ∙ entries_again c.first c.entries rest in
    rw (lt-ltb c.stream (length keys) next.within, all) (λ i. Good (record { stream = c.stream; first = sym next.first i; entries = c.entries }) rest)

stream_again : (keys : List (List ℕ)) (seen : List ℕ) (c : CameAt) (rest : List TokenAt) → IsNext keys seen c → stream_at keys seen (stream_tokens keys c ++ rest) ≡ Good c rest
unfolding stream_at pair_at
stream_again keys seen c rest next = rw next.place (known_again keys seen c rest next)

streams_texts : (keys : List (List ℕ)) (seen : List ℕ) (from : ℕ) (cs : List CameAt) → texts (λ _. stream_at keys seen) (λ _. stream_tokens keys) (IsNext keys seen) from cs ≡ flat_map (stream_tokens keys) cs
unfolding texts
streams_texts keys seen from [] = refl
streams_texts keys seen from (c ∷ cs) = ap (λ (l : List TokenAt). stream_tokens keys c ++ l) (streams_texts keys seen (from + 1) cs)

streams_again : (keys : List (List ℕ)) (seen : List ℕ) (cs : List CameAt) (rest : List TokenAt) → AllByRecursion (IsNext keys seen) cs → many_at (λ _. stream_at keys seen) 0 (length cs) (flat_map (stream_tokens keys) cs ++ rest) ≡ Good cs rest
streams_again keys seen cs rest all =
    ap (λ (l : List TokenAt). many_at (λ _. stream_at keys seen) 0 (length cs) (l ++ rest)) (sym (streams_texts keys seen 0 cs))
    ∙ many_again (λ _. stream_at keys seen) (λ _. stream_tokens keys) (IsNext keys seen) (λ n c r next. stream_again keys seen c r next) 0 cs rest all

pub came_again : (keys : List (List ℕ)) (seen : List ℕ) (cs : List CameAt) (rest : List TokenAt) → AllByRecursion (IsNext keys seen) cs → came_at keys seen (came_tokens keys cs ++ rest) ≡ Good cs rest
unfolding came_at
came_again keys seen [] rest all = refl
came_again keys seen (c ∷ cs) rest all = rw (not_none (length cs)) (streams_again keys seen (c ∷ cs) rest all)
