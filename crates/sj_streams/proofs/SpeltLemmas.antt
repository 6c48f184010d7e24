-- What is read is spelt so.
use Rattle.std.proofs.Common.{◌≡◌, ℕ, zero, suc, ◌+◌, ◌<◌, Bool, true, false, not, cond, eqb, ltb, List, [], ◌∷◌, ◌++◌, length, get_or, map, refl, sym, ap, subst, ◌∙◌, append_assoc}
use Rattle.std.specs.List.{AllByRecursion, flat_map}
use Rattle.std.specs.Str.{bytes_eq}
use Rattle.std.proofs.lemmas.Bool.{eqb-true, ltb-true}
use Rattle.std.proofs.lemmas.List.Sums.{prefix_len_stops}
use Rattle.sj_proto.proofs.NameLemmas.{test_is}
use Rattle.sj_resp.specs.Token.{TokenAt, Simple, Failed, Int, Bulk, Null, Array}
use Rattle.sj_streams.specs.declared.misread.Misread.{Misread}
use Rattle.sj_streams.specs.declared.misread.Misread.TheVariants as misreads
use Rattle.sj_streams.specs.Keys.{id_text}
use Rattle.sj_streams.specs.Reading.{Read, Good, Bad, ◌>>=◌, CameAt, word_at, count_at, two_then, pair_at, many_at, words_in, named_then, entry_at, entries_then, known_at, place_in, stream_at, came_at}
use Rattle.sj_streams.specs.Replies.{IsNext, entry_tokens, entries_tokens, stream_tokens, came_tokens}

-- what was read before, and what was made of it
pub bind_good : {A B : Type 0} (r : Read A) (f : A → List TokenAt → Read B) (y : B) (rest : List TokenAt) → (r >>= f) ≡ Good y rest → (x : A) × (mid : List TokenAt) × (r ≡ Good x mid) × (f x mid ≡ Good y rest)
bind_good (Good x mid) f y rest e = (x, mid, refl, e)
bind_good (Bad b) f y rest e = absurd cc

-- a test that was passed
pub passed : {A : Type 0} (b : Bool) (x : Read A) (w : Misread) (y : A) (rest : List TokenAt) → cond b x (Bad w) ≡ Good y rest → (b ≡ true) × (x ≡ Good y rest)
passed true x w y rest e = (refl, e)
passed false x w y rest e = absurd cc

pub not_passed : {A : Type 0} (b : Bool) (x : Read A) (w : Misread) (y : A) (rest : List TokenAt) → cond b (Bad w) x ≡ Good y rest → (b ≡ false) × (x ≡ Good y rest)
not_passed true x w y rest e = absurd cc
not_passed false x w y rest e = (refl, e)

value_is : {A : Type 0} {x y : A} {a b : List TokenAt} → Good x a ≡ Good y b → x ≡ y
value_is e = cc

rest_is : {A : Type 0} {x y : A} {a b : List TokenAt} → Good x a ≡ Good y b → a ≡ b
rest_is e = cc

word_spelt : (ts : List TokenAt) (w : List ℕ) (rest : List TokenAt) → word_at ts ≡ Good w rest → ts ≡ Bulk w ∷ rest
word_spelt [] w rest e = absurd cc
word_spelt (Simple l ∷ ts) w rest e = absurd cc
word_spelt (Failed l ∷ ts) w rest e = absurd cc
word_spelt (Int i ∷ ts) w rest e = absurd cc
word_spelt (Bulk b ∷ ts) w rest e = λ i. Bulk (value_is e i) ∷ rest_is e i
word_spelt (Null ∷ ts) w rest e = absurd cc
word_spelt (Array n ∷ ts) w rest e = absurd cc

count_spelt : (ts : List TokenAt) (n : ℕ) (rest : List TokenAt) → count_at ts ≡ Good n rest → ts ≡ Array n ∷ rest
count_spelt [] n rest e = absurd cc
count_spelt (Simple l ∷ ts) n rest e = absurd cc
count_spelt (Failed l ∷ ts) n rest e = absurd cc
count_spelt (Int i ∷ ts) n rest e = absurd cc
count_spelt (Bulk b ∷ ts) n rest e = absurd cc
count_spelt (Null ∷ ts) n rest e = absurd cc
count_spelt (Array m ∷ ts) n rest e = λ i. Array (value_is e i) ∷ rest_is e i

pair_spelt : (ts : List TokenAt) (u : Unit {0}) (rest : List TokenAt) → pair_at ts ≡ Good u rest → ts ≡ Array 2 ∷ rest
unfolding pair_at
pair_spelt ts u rest e =
    let b = bind_good (count_at ts) two_then u rest e in
    let t = passed (eqb b.0 2) (Good tt b.1) misreads.Shape u rest b.3 in
    count_spelt ts b.0 b.1 b.2 ∙ (λ i. Array (eqb-true b.0 2 t.0 i) ∷ rest_is t.1 i)

module _ {A : Type 0} (read : ℕ → List TokenAt → Read A) (text : ℕ → A → List TokenAt) (P : ℕ → A → Type 0) where
  -- the texts of values, from that number on
  abbrev pub texts : ℕ → List A → List TokenAt
  texts from [] = []
  texts from (x ∷ xs) = text from x ++ texts (from + 1) xs

  -- each has what is asked of it
  abbrev pub Each : ℕ → List A → Type 0
  Each from [] = Unit {0}
  Each from (x ∷ xs) = P from x × Each (from + 1) xs

  pub record Spells (from count : ℕ) (ts : List TokenAt) (xs : List A) (rest : List TokenAt) : Type 0 where
    pub parts : ts ≡ texts from xs ++ rest
    pub many : length xs ≡ count
    pub each : Each from xs

  pub many_spelt : ((n : ℕ) (ts : List TokenAt) (x : A) (rest : List TokenAt) → read n ts ≡ Good x rest → (ts ≡ text n x ++ rest) × P n x)
      → (from count : ℕ) (ts : List TokenAt) (xs : List A) (rest : List TokenAt) → many_at read from count ts ≡ Good xs rest → Spells from count ts xs rest
  unfolding many_at
  many_spelt one from zero ts xs rest e =
      let none : xs ≡ [] = sym (value_is e) in
      subst (λ (l : List A). Spells from zero ts l rest) (sym none) (record { parts = rest_is e; many = refl; each = tt })
  many_spelt one from (suc n) ts xs rest e =
      let b = bind_good (read from ts) (λ x mid. many_at read (from + 1) n mid >>= λ ys end. Good (x ∷ ys) end) xs rest e in
      let d = bind_good (many_at read (from + 1) n b.1) (λ ys end. Good (b.0 ∷ ys) end) xs rest b.3 in
      let first = one from ts b.0 b.1 b.2 in
      let s = many_spelt one (from + 1) n b.1 d.0 d.1 d.2 in
      let all : b.0 ∷ d.0 ≡ xs = value_is d.3 in
      let end : d.1 ≡ rest = rest_is d.3 in
      subst (λ (l : List A). Spells from (suc n) ts l rest) all
      (record {
        parts = first.0 ∙ ap (λ (l : List TokenAt). text from b.0 ++ l) (s.parts ∙ ap (λ (l : List TokenAt). texts (from + 1) d.0 ++ l) end) ∙ sym (append_assoc (text from b.0) (texts (from + 1) d.0) rest);
        many = ap suc s.many;
        each = (first.1, s.each);
      })

words_texts : (from : ℕ) (ws : List (List ℕ)) → texts (λ _. word_at) (λ _ w. Bulk w ∷ []) (λ _ _. Unit {0}) from ws ≡ map Bulk ws
words_texts from [] = refl
words_texts from (w ∷ ws) = ap (λ (l : List TokenAt). Bulk w ∷ l) (words_texts (from + 1) ws)

words_spelt : (count : ℕ) (ts : List TokenAt) (ws : List (List ℕ)) (rest : List TokenAt) → words_in count ts ≡ Good ws rest → (ts ≡ map Bulk ws ++ rest) × (length ws ≡ count)
words_spelt count ts ws rest e =
    let s = many_spelt (λ _. word_at) (λ _ w. Bulk w ∷ []) (λ _ _. Unit {0}) (λ n us w end h. (word_spelt us w end h, tt)) 0 count ts ws rest e in
    (s.parts ∙ ap (λ (l : List TokenAt). l ++ rest) (words_texts 0 ws), s.many)

words_made : (ws : List (List ℕ)) (ts mid rest : List TokenAt) (count : ℕ) → ts ≡ Array count ∷ mid → length ws ≡ count → mid ≡ map Bulk ws ++ rest → ts ≡ Array (length ws) ∷ (map Bulk ws ++ rest)
words_made ws ts mid rest count head many parts = head ∙ (λ i. Array (sym many i) ∷ parts i)

entry_made : (n : ℕ) (ws : List (List ℕ)) (ts named counted rest : List TokenAt) (id : List ℕ) → ts ≡ Array 2 ∷ named → named ≡ Bulk id ∷ counted → id ≡ id_text n → counted ≡ Array (length ws) ∷ (map Bulk ws ++ rest)
    → ts ≡ entry_tokens n ws ++ rest
entry_made n ws ts named counted rest id head name is words = head ∙ ap (λ (l : List TokenAt). Array 2 ∷ l) (name ∙ (λ i. Bulk (is i) ∷ words i))

entry_spelt : (n : ℕ) (ts : List TokenAt) (ws : List (List ℕ)) (rest : List TokenAt) → entry_at n ts ≡ Good ws rest → ts ≡ entry_tokens n ws ++ rest
unfolding entry_at
entry_spelt n ts ws rest e =
    let a = bind_good (pair_at ts) (λ _ named. word_at named >>= named_then n) ws rest e in
    let b = bind_good (word_at a.1) (named_then n) ws rest a.3 in
    let t = passed (bytes_eq b.0 (id_text n)) (count_at b.1 >>= words_in) misreads.Gap ws rest b.3 in
    let d = bind_good (count_at b.1) words_in ws rest t.1 in
    let w = words_spelt d.0 d.1 ws rest d.3 in
    entry_made n ws ts a.1 b.1 rest b.0 (pair_spelt ts a.0 a.1 a.2) (word_spelt a.1 b.0 b.1 b.2) (test_is b.0 (id_text n) t.0) (words_made ws b.1 d.1 rest d.0 (count_spelt b.1 d.0 d.1 d.2) w.1 w.0)

entries_texts : (from : ℕ) (es : List (List (List ℕ))) → texts entry_at entry_tokens (λ _ _. Unit {0}) from es ≡ entries_tokens from es
entries_texts from [] = refl
entries_texts from (e ∷ es) = ap (λ (l : List TokenAt). entry_tokens from e ++ l) (entries_texts (from + 1) es)

not_false : (b : Bool) → not b ≡ false → b ≡ true
not_false true e = refl
not_false false e = absurd cc

first_place : (key : List ℕ) (keys : List (List ℕ)) → place_in key keys < length keys → get_or keys (place_in key keys) [] ≡ key
unfolding place_in
first_place key keys lt =
    let at = place_in key keys in
    test_is (get_or keys at []) key (not_false (bytes_eq (get_or keys at []) key) (prefix_len_stops (λ k. not (bytes_eq k key)) keys [] lt))

known_spelt : (keys : List (List ℕ)) (seen : List ℕ) (stream : ℕ) (ts : List TokenAt) (c : CameAt) (rest : List TokenAt) → known_at keys seen stream ts ≡ Good c rest
    → (ts ≡ Array (length c.entries) ∷ (entries_tokens c.first c.entries ++ rest)) × (c.stream ≡ stream) × (stream < length keys) × (c.first ≡ get_or seen stream 0 + 1)
unfolding known_at
known_spelt keys seen stream ts c rest e =
    let from = get_or seen stream 0 + 1 in
    let t = passed (ltb stream (length keys)) (count_at ts >>= entries_then (get_or seen stream 0) stream) misreads.Key c rest e in
    let b = bind_good (count_at ts) (entries_then (get_or seen stream 0) stream) c rest t.1 in
    let d = bind_good (many_at entry_at from b.0 b.1) (λ es end. Good (record { stream = stream; first = from; entries = es }) end) c rest b.3 in
    let s = many_spelt entry_at entry_tokens (λ _ _. Unit {0}) (λ n us ws end h. (entry_spelt n us ws end h, tt)) from b.0 b.1 d.0 d.1 d.2 in
    let made : CameAt = record { stream = stream; first = from; entries = d.0 } in
    let is : made ≡ c = value_is d.3 in
    let parts : ts ≡ Array (length d.0) ∷ (entries_tokens from d.0 ++ rest) =
    count_spelt ts b.0 b.1 b.2 ∙ (λ i. Array (sym s.many i) ∷ (s.parts ∙ (λ j. entries_texts from d.0 j ++ rest_is d.3 j)) i) in
    subst (λ (k : CameAt). (ts ≡ Array (length k.entries) ∷ (entries_tokens k.first k.entries ++ rest)) × (k.stream ≡ stream) × (stream < length keys) × (k.first ≡ from)) is
    (parts, refl, ltb-true stream (length keys) t.0, refl)

stream_spelt : (keys : List (List ℕ)) (seen : List ℕ) (ts : List TokenAt) (c : CameAt) (rest : List TokenAt) → stream_at keys seen ts ≡ Good c rest → (ts ≡ stream_tokens keys c ++ rest) × IsNext keys seen c
unfolding stream_at
stream_spelt keys seen ts c rest e =
    let a = bind_good (pair_at ts) (λ _ named. word_at named >>= λ key end. known_at keys seen (place_in key keys) end) c rest e in
    let b = bind_good (word_at a.1) (λ key end. known_at keys seen (place_in key keys) end) c rest a.3 in
    let k = known_spelt keys seen (place_in b.0 keys) b.1 c rest b.3 in
    let key : get_or keys c.stream [] ≡ b.0 = ap (λ n. get_or keys n []) k.1 ∙ first_place b.0 keys k.2 in (
      pair_spelt ts a.0 a.1 a.2 ∙ ap (λ (l : List TokenAt). Array 2 ∷ l) (word_spelt a.1 b.0 b.1 b.2 ∙ (λ i. Bulk (sym key i) ∷ k.0 i)),
      record {
        within = subst (λ n. n < length keys) (sym k.1) k.2;
        place = ap (λ (t : List ℕ). place_in t keys) key ∙ sym k.1;
        first = k.3 ∙ ap (λ n. get_or seen n 0 + 1) (sym k.1);
      },
    )

streams_texts : (keys : List (List ℕ)) (seen : List ℕ) (from : ℕ) (cs : List CameAt) → texts (λ _. stream_at keys seen) (λ _. stream_tokens keys) (λ _. IsNext keys seen) from cs ≡ flat_map (stream_tokens keys) cs
streams_texts keys seen from [] = refl
streams_texts keys seen from (c ∷ cs) = ap (λ (l : List TokenAt). stream_tokens keys c ++ l) (streams_texts keys seen (from + 1) cs)

each_next : (keys : List (List ℕ)) (seen : List ℕ) (from : ℕ) (cs : List CameAt) → Each (λ _. stream_at keys seen) (λ _. stream_tokens keys) (λ _. IsNext keys seen) from cs → AllByRecursion (IsNext keys seen) cs
each_next keys seen from [] h = tt
each_next keys seen from (c ∷ cs) h = (h.0, each_next keys seen (from + 1) cs h.1)

-- the whole reply
pub came_spelt : (keys : List (List ℕ)) (seen : List ℕ) (ts : List TokenAt) (cs : List CameAt) (rest : List TokenAt) → came_at keys seen ts ≡ Good cs rest → (ts ≡ came_tokens keys cs ++ rest) × AllByRecursion (IsNext keys seen) cs
unfolding came_at
came_spelt keys seen [] cs rest e = absurd cc
came_spelt keys seen (Simple l ∷ ts) cs rest e = absurd cc
came_spelt keys seen (Failed l ∷ ts) cs rest e = absurd cc
came_spelt keys seen (Int i ∷ ts) cs rest e = absurd cc
came_spelt keys seen (Bulk b ∷ ts) cs rest e = absurd cc
came_spelt keys seen (Null ∷ ts) cs rest e =
    subst (λ (l : List CameAt). (Null ∷ ts ≡ came_tokens keys l ++ rest) × AllByRecursion (IsNext keys seen) l) (value_is e) (ap (λ (l : List TokenAt). Null ∷ l) (rest_is e), tt)
came_spelt keys seen (Array n ∷ ts) cs rest e =
    let t = not_passed (eqb n 0) (many_at (λ _. stream_at keys seen) 0 n ts) misreads.Shape cs rest e in
    let s = many_spelt (λ _. stream_at keys seen) (λ _. stream_tokens keys) (λ _. IsNext keys seen) (λ k us c end h. stream_spelt keys seen us c end h) 0 n ts cs rest t.1 in
    let parts : Array n ∷ ts ≡ Array (length cs) ∷ (flat_map (stream_tokens keys) cs ++ rest) = λ i. Array (sym s.many i) ∷ (s.parts ∙ (λ j. streams_texts keys seen 0 cs j ++ rest)) i in
    some_came cs s.many t.0 parts (each_next keys seen 0 cs s.each)
  where
    some_came : (cs : List CameAt) → length cs ≡ n → eqb n 0 ≡ false → Array n ∷ ts ≡ Array (length cs) ∷ (flat_map (stream_tokens keys) cs ++ rest) → AllByRecursion (IsNext keys seen) cs → (Array n ∷ ts ≡ came_tokens keys cs ++ rest) × AllByRecursion (IsNext keys seen) cs
    some_came [] many some parts each = let no : true ≡ false = subst (λ k. eqb k 0 ≡ false) (sym many) some in absurd cc
    some_came (c ∷ cs) many some parts each = (parts, each)
