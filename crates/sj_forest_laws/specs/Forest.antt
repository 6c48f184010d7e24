-- Files whose parties and connections form a forest.
use Rattle.std.specs.Prelude.{◌≡◌, ℕ, ◌+◌, ◌≤◌, ◌==◌, nat_lt, Bool, true, false, not, ◌&&◌, List, [], ◌∷◌, map, length, sum_by, if◌then◌else◌}
use Rattle.sj_lang.specs.FileAt.{FileAt, ConnectAt, party_named}
use Rattle.sj_semantics_laws.specs.Openless.{IsOpenless}

-- a connection is an edge between its two parties
abbrev pub edge_between : FileAt → ConnectAt → ℕ × ℕ
edge_between file c = (party_named file.parties c.first.party, party_named file.parties c.second.party)

-- the edges of the connections, in file order
abbrev pub edges_of : FileAt → List (ℕ × ℕ)
edges_of file = map (edge_between file) file.connects

-- how often the party is one of the two of an edge that remains: both of its parties are left
abbrev pub times_at : (ℕ → Bool) → ℕ → ℕ × ℕ → ℕ
times_at left p e = if left e.0 && left e.1 then (if e.0 == p then 1 else 0) + (if e.1 == p then 1 else 0) else 0

-- the party's remaining edges; one of a party with itself counts twice
abbrev pub edges_at : List (ℕ × ℕ) → (ℕ → Bool) → ℕ → ℕ
edges_at edges left p = sum_by (times_at left p) edges

-- who is left without the party
abbrev pub without : (ℕ → Bool) → ℕ → ℕ → Bool
without left p q = left q && not (q == p)

-- these parties are taken away in order, each with its one remaining edge at
-- most, and those are left
abbrev pub AreTaken : List (ℕ × ℕ) → (ℕ → Bool) → List ℕ → (ℕ → Bool) → Type 0
AreTaken edges left [] last = (p : ℕ) → left p ≡ last p
AreTaken edges left (p ∷ ps) last = (left p ≡ true) × (edges_at edges left p ≤ 1) × AreTaken edges (without left p) ps last

-- of n parties those are left, each with two remaining edges at least
pub record AreLeft (edges : List (ℕ × ℕ)) (n : ℕ) (left : ℕ → Bool) : Type 0 where
  pub order : List ℕ
  pub taken : AreTaken edges (λ p. nat_lt p n) order left
  pub stay : (p : ℕ) → left p ≡ true → 2 ≤ edges_at edges left p

-- nobody
abbrev pub nobody : ℕ → Bool
nobody p = false

-- nobody is left, and no body has a request or an accept
pub record IsForest (file : FileAt) : Type 0 where
  pub none_left : AreLeft (edges_of file) (length file.parties) nobody
  pub openless : IsOpenless file
