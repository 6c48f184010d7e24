-- What contracts see of a file.
use Rattle.std.specs.Prelude.{ℕ, ◌+◌, ◌==◌, map, List, [], ◌∷◌, ◌++◌, Option, Some, None, unwrap_or, if◌then◌else◌}
use Rattle.sj_base.specs.declared.EndId.{EndId}
use Rattle.sj_lang.specs.Place.{Place, done}
use Rattle.sj_lang.specs.Code.{Code}

pub record ProtocolAt : Type 0 where
  pub line : ℕ
  pub name : ℕ
  pub body : Place

pub record PartyAt : Type 0 where
  pub line : ℕ
  pub name : ℕ
  pub code : Code

-- one of the two ends of a connection, by the names of its party, itself and its protocol
pub record DeclAt : Type 0 where
  pub party : ℕ
  pub name : ℕ
  pub protocol : ℕ

pub record ConnectAt : Type 0 where
  pub line : ℕ
  pub first : DeclAt
  pub second : DeclAt

-- the words and texts that numbers name, and the file's parts in order
pub record FileAt : Type 0 where
  pub words : List (List ℕ)
  pub texts : List (List ℕ)
  pub protocols : List ProtocolAt
  pub parties : List PartyAt
  pub connects : List ConnectAt

-- what stands under a name, in a list of names and what they stand for
abbrev pub named : {X : Type 0} → List (ℕ × X) → ℕ → Option X
named [] n = None
named (b ∷ bs) n = if b.0 == n then Some b.1 else named bs n

-- the body of the first protocol of that name
abbrev pub protocol_named : List ProtocolAt → ℕ → Option Place
protocol_named [] n = None
protocol_named (p ∷ ps) n = if p.name == n then Some p.body else protocol_named ps n

-- the same, and the empty place where no protocol has that name
abbrev pub body_named : List ProtocolAt → ℕ → Place
body_named ps n = unwrap_or (protocol_named ps n) done

-- the number of the party of that name, or how many there are
abbrev pub party_named : List PartyAt → ℕ → ℕ
party_named [] n = 0
party_named (p ∷ ps) n = if p.name == n then 0 else 1 + party_named ps n

-- the names of the parties, in order
abbrev pub party_names : List PartyAt → List ℕ
party_names ps = map (λ p. p.name) ps

-- the number at which the name stands first, or how many there are
abbrev pub number_of_name : List ℕ → ℕ → ℕ
number_of_name [] n = 0
number_of_name (m ∷ ms) n = if m == n then 0 else 1 + number_of_name ms n

-- the end by its name, where it belongs to the party
abbrev pub end_of_party : FileAt → ℕ → DeclAt → EndId → List (ℕ × EndId)
end_of_party file p d e = if party_named file.parties d.party == p then (d.name, e) ∷ [] else []

-- the ends that connections give the party, the first of them in session n
abbrev pub ends_from : FileAt → ℕ → ℕ → List ConnectAt → List (ℕ × EndId)
ends_from file p n [] = []
ends_from file p n (c ∷ cs) =
    end_of_party file p c.first (record { sess = n; side = 0 }) ++ end_of_party file p c.second (record { sess = n; side = 1 }) ++ ends_from file p (n + 1) cs
