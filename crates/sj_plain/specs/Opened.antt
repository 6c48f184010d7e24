-- The sessions that parties opened, as they lie in order of their numbers.
use Rattle.std.specs.Prelude.{◌≡◌, ℕ, suc, ◌<◌, ◌==◌, nat_lt, List, [], ◌∷◌, Some, if◌then◌else◌}
use Rattle.sj_lang.specs.FileAt.{ProtocolAt}
use Rattle.sj_semantics.specs.declared.Opened.{Opened}
use Rattle.sj_semantics.specs.Ends as model
use Rattle.sj_semantics.specs.Program.{Program}
use Rattle.sj_semantics.specs.Requests.{Request, Requests, opened_from}
use Rattle.sj_semantics.specs.World.{World}

-- what the session's requester asked for
abbrev pub request_of : Opened → Request
request_of o = record { to = o.to; first = o.first; second = o.second }

-- what each party requested, where these sessions were opened
abbrev pub requests_in : List Opened → Requests
requests_in [] p = []
requests_in (o ∷ os) p = if o.from == p then request_of o ∷ requests_in os p else requests_in os p

-- how many of these sessions were opened by parties of lower numbers
abbrev pub before_in : List Opened → ℕ → ℕ
before_in [] p = 0
before_in (o ∷ os) p = if nat_lt o.from p then suc (before_in os p) else before_in os p

-- they lie in order of their numbers, and n parties may have opened them
abbrev pub IsInOrder : ℕ → List Opened → Type 0
IsInOrder n os = os ≡ opened_from (requests_in os) n 0

-- so they lie, and the party is one that may have opened some
pub record AreInOrder (party : ℕ) (os : List Opened) : Type 0 where
  pub parties : ℕ
  pub there : party < parties
  pub ordered : IsInOrder parties os

-- the session when it was accepted under that name
abbrev pub accepted_session : ℕ → Opened → Opened
accepted_session y o = record { sess = o.sess; from = o.from; first = o.first; to = o.to; second = Some y }

-- the world of these protocols, parties, sessions, and sessions that were opened
abbrev pub world_with : List ProtocolAt → List Program → List model.Session → List Opened → World
world_with ps gs zs os = record { protocols = ps; parties = gs; sessions = zs; requests = requests_in os }
