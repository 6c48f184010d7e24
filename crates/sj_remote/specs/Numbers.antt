-- The numbers of entries that were seen.
use Rattle.std.specs.Prelude.{◌≡◌, ◌⊎◌, ℕ, ◌+◌, ◌<◌, ◌≤◌, ◌^◌, List, get_or, length}

-- each number has a next one below 2^63
abbrev pub IsFew : List ℕ → Type 0
IsFew seen = (i : ℕ) → get_or seen i 0 + 1 < 2 ^ 63

-- of no stream an entry was seen
abbrev pub AreUnseen : List ℕ → Type 0
AreUnseen seen = (i : ℕ) → get_or seen i 0 ≡ 0

-- there is no such stream, or with so many more its numbers would come to 2^62
abbrev pub IsNoNumber : (seen : List ℕ) → (stream more : ℕ) → Type 0
IsNoNumber seen stream more = (length seen ≤ stream) ⊎ (2 ^ 62 ≤ get_or seen stream 0 + more)
