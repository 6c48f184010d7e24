-- Parts of a reply, read from the front of its tokens. `Replies` has the same lines from values to tokens.
use Rattle.std.specs.Prelude.{ℕ, zero, suc, ◌+◌, ◌==◌, if◌then◌else◌, nat_lt, List, [], ◌∷◌, length, get_or, Result, Ok, Err, ◌≡◌, ⊤}
use Rattle.std.specs.List.{position_or_len}
use Rattle.std.specs.Str.{bytes_eq}
use Rattle.sj_resp.specs.Token.{TokenAt, Bulk, Null, Array}
use Rattle.sj_streams.specs.Keys.{id_text}
use Rattle.sj_streams.specs.declared.misread.Misread.{Misread}
use Rattle.sj_streams.specs.declared.misread.Misread.TheVariants as misreads

-- a value and the tokens after it, or why there is none
pub data Read (A : Type 0) : Type 0 where
  Good : A → (rest : List TokenAt) → Read A
  Bad : Misread → Read A

infixl 10 ◌>>=◌
abbrev pub ◌>>=◌ : {A B : Type 0} → Read A → (A → List TokenAt → Read B) → Read B
(Good x rest) >>= f = f x rest
(Bad e) >>= f = Bad e

-- a text
abbrev pub word_at : List TokenAt → Read (List ℕ)
word_at (Bulk w ∷ ts) = Good w ts
word_at _ = Bad misreads.Shape

-- the head of an array, with its count
abbrev pub count_at : List TokenAt → Read ℕ
count_at (Array n ∷ ts) = Good n ts
count_at _ = Bad misreads.Shape

-- the head of an array of two
abbrev pub two_then : ℕ → List TokenAt → Read (Unit {0})
two_then n rest = if n == 2 then Good tt rest else Bad misreads.Shape

unfoldable pub pair_at : List TokenAt → Read (Unit {0})
pair_at ts = count_at ts >>= two_then

-- so many values, each read with its number
unfoldable pub many_at : {A : Type 0} → (ℕ → List TokenAt → Read A) → (from count : ℕ) → List TokenAt → Read (List A)
many_at read from zero ts = Good [] ts
many_at read from (suc n) ts = read from ts >>= λ x rest. many_at read (from + 1) n rest >>= λ xs end. Good (x ∷ xs) end

-- so many texts
abbrev pub words_in : (count : ℕ) → List TokenAt → Read (List (List ℕ))
words_in count ts = many_at (λ _. word_at) 0 count ts

-- the words of an entry, where the number is the one that comes next
abbrev pub named_then : (number : ℕ) → (id : List ℕ) → List TokenAt → Read (List (List ℕ))
named_then number id rest = if bytes_eq id (id_text number) then count_at rest >>= words_in else Bad misreads.Gap

-- the entry of that number
unfoldable pub entry_at : (number : ℕ) → List TokenAt → Read (List (List ℕ))
entry_at number ts = pair_at ts >>= λ _ named. word_at named >>= named_then number

-- what came of one stream: which one, the number of the first entry, and the words of each
pub record CameAt : Type 0 where
  pub stream : ℕ
  pub first : ℕ
  pub entries : List (List (List ℕ))

-- so many entries of that stream, after the last that was seen
abbrev pub entries_then : (seen stream : ℕ) → (count : ℕ) → List TokenAt → Read CameAt
entries_then seen stream count ts = many_at entry_at (seen + 1) count ts >>= λ es rest. Good (record { stream = stream; first = seen + 1; entries = es }) rest

-- the stream, if it is one that was asked for
unfoldable pub known_at : (keys : List (List ℕ)) → (seen : List ℕ) → (stream : ℕ) → List TokenAt → Read CameAt
known_at keys seen stream ts = if nat_lt stream (length keys) then count_at ts >>= entries_then (get_or seen stream 0) stream else Bad misreads.Key

-- the first of the keys that is this one, or how many there are
unfoldable pub place_in : (key : List ℕ) → (keys : List (List ℕ)) → ℕ
place_in key keys = position_or_len (λ k. bytes_eq k key) keys

-- one stream: its key, and its entries
unfoldable pub stream_at : (keys : List (List ℕ)) → (seen : List ℕ) → List TokenAt → Read CameAt
stream_at keys seen ts = pair_at ts >>= λ _ named. word_at named >>= λ key rest. known_at keys seen (place_in key keys) rest

-- the whole reply: a null, or at least one stream
unfoldable pub came_at : (keys : List (List ℕ)) → (seen : List ℕ) → List TokenAt → Read (List CameAt)
came_at keys seen (Null ∷ rest) = Good [] rest
came_at keys seen (Array count ∷ rest) = if count == 0 then Bad misreads.Shape else many_at (λ _. stream_at keys seen) 0 count rest
came_at keys seen _ = Bad misreads.Shape

-- the answer, seen by a view, is what reading gives; out of memory says nothing
abbrev pub Fails : {A : Type 0} → Misread → Read A → Type 0
Fails misreads.NoMemory read = ⊤
Fails misreads.Shape read = read ≡ Bad misreads.Shape
Fails misreads.Key read = read ≡ Bad misreads.Key
Fails misreads.Gap read = read ≡ Bad misreads.Gap

abbrev pub Reads : {X A : Type 0} → (X → A) → Result X Misread → (left : List TokenAt) → Read A → Type 0
Reads view (Ok x) left read = read ≡ Good (view x) left
Reads view (Err e) left read = Fails e read
