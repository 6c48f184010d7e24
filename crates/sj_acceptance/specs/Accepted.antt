-- Accepted files.
use Rattle.std.specs.Prelude.{◌≡◌, ◌≢◌, ℕ, ◌==◌, ◌<◌, List, [], ◌∷◌, Some, None, slice_get, length, ◌++◌, All, AllPairs, Contains, if◌then◌else◌}
use Rattle.sj_lang.specs.Place.{Place}
use Rattle.sj_lang.specs.Meet.{Meets}
use Rattle.sj_lang.specs.Limits.{IsWithin, limits}
use Rattle.sj_lang.specs.FileAt.{FileAt, PartyAt, ConnectAt, DeclAt, named, protocol_named, body_named, party_named, party_names}
use Rattle.sj_acceptance.specs.Environment.{Env}
use Rattle.sj_acceptance.specs.Follows.{Follows}
use Rattle.sj_acceptance.specs.Labels.{NamesOnce}
use Rattle.sj_acceptance.specs.Openings.{OpeningAt, accepts_of, requests_of}

-- the end's place by its name, where it belongs to the party
abbrev pub place_of_party : FileAt → ℕ → DeclAt → List (ℕ × Place)
place_of_party file p d =
    if party_named file.parties d.party == p then (d.name, body_named file.protocols d.protocol) ∷ [] else []

-- the places of the ends that connections give the party
abbrev pub places_from : FileAt → ℕ → List ConnectAt → List (ℕ × Place)
places_from file p [] = []
places_from file p (c ∷ cs) = place_of_party file p c.first ++ place_of_party file p c.second ++ places_from file p cs

-- the party's connected ends, and no variable
abbrev pub start_env : FileAt → ℕ → Env
start_env file p = record { places = named (places_from file p file.connects); kinds = λ n. None }

-- the party exists, and the protocol does and has that body
pub record IsDeclared (file : FileAt) (d : DeclAt) (body : Place) : Type 0 where
  pub party : party_named file.parties d.party < length file.parties
  pub protocol : protocol_named file.protocols d.protocol ≡ Some body

-- both ends of the connection exist, with protocols that meet
pub record IsConnection (file : FileAt) (c : ConnectAt) : Type 0 where
  pub one : Place
  pub other : Place
  pub first : IsDeclared file c.first one
  pub second : IsDeclared file c.second other
  pub meet : Meets one other

-- the party's code leads from its connected ends to no live end
pub record EndsWell (file : FileAt) (p : ℕ) (q : PartyAt) : Type 0 where
  pub last : Env
  pub follows : Follows file.protocols (party_names file.parties) q.code (start_env file p) last
  pub no_end : (n : ℕ) → last.places n ≡ None

-- each request of the one party to the other one, and each accept of that one from the first,
-- are of protocols that meet
pub record OpeningsMeet (file : FileAt) (a b : PartyAt) : Type 0 where
  pub meet : (r c : OpeningAt) → Contains (requests_of a.code) r → Contains (accepts_of b.code) c → r.party ≡ b.name → c.party ≡ a.name
      → Meets (body_named file.protocols r.protocol) (body_named file.protocols c.protocol)

-- what is named once, what exists, where each party's code leads, and which sessions are opened
pub record IsAccepted (file : FileAt) : Type 0 where
  pub within : IsWithin limits file
  pub protocols_once : AllPairs (λ p q. p.name ≢ q.name) file.protocols
  pub labels_once : All (λ p. NamesOnce p.body) file.protocols
  pub parties_once : AllPairs (λ p q. p.name ≢ q.name) file.parties
  pub connections : All (IsConnection file) file.connects
  pub ends_once : (p : ℕ) → AllPairs (λ b c. b.0 ≢ c.0) (places_from file p file.connects)
  pub bodies : (p : ℕ) (q : PartyAt) → slice_get file.parties p ≡ Some q → EndsWell file p q
  pub openings : All (λ a. All (λ b. OpeningsMeet file a b) file.parties) file.parties
