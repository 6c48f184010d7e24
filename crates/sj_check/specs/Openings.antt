-- The requests and the accepts of parties, as the checker gathers them.
use Rattle.std.specs.Prelude.{◌≡◌, ℕ, Bool, true, false, ◌==◌, ◌&&◌, ◌||◌, not, List, [], ◌∷◌, ◌++◌, map}
use Rattle.sj_lang.specs.FileAt.{ProtocolAt, PartyAt}
use Rattle.sj_acceptance.specs.Faults.{Test}
use Rattle.sj_acceptance.specs.FileTests.{meets_each}
use Rattle.sj_acceptance.specs.Openings.{OpeningAt, requests_of, accepts_of}
use Rattle.sj_acceptance.specs.Rules.{accept_unmet}
use Rattle.sj_check.specs.declared.openings.Opening.{Opening}
use Rattle.sj_check.specs.declared.openings.Openings.{Openings}

abbrev pub opening_of : Opening → OpeningAt
opening_of o = record { line = o.line; protocol = o.protocol; party = o.party }

abbrev pub openings_of : List Opening → List OpeningAt
openings_of os = map opening_of os

-- one of these is of that protocol and that party
abbrev pub is_asked : ℕ → ℕ → List OpeningAt → Bool
is_asked protocol party [] = false
is_asked protocol party (o ∷ os) = ((o.protocol == protocol) && (o.party == party)) || is_asked protocol party os

-- the party's accepts, and requests that decide as all of its requests do
pub record AreOf (os : Openings) (q : PartyAt) : Type 0 where
  pub name : os.party ≡ q.name
  pub accepts : openings_of os.accepts.items ≡ accepts_of q.code
  pub requests : (ps : List ProtocolAt) (b : ℕ) (a : OpeningAt) → meets_each ps b a (openings_of os.requests.items) ≡ meets_each ps b a (requests_of q.code)

-- what the party of that name accepts so meets the requests of the party from which it accepts
abbrev pub meets_gathered : List ProtocolAt → ℕ → OpeningAt → List Openings → Bool
meets_gathered ps b a [] = true
meets_gathered ps b a (os ∷ rest) = (not (os.party == a.party) || meets_each ps b a (openings_of os.requests.items)) && meets_gathered ps b a rest

-- each of these accepts, of the party of that name
abbrev pub each_accept : List ProtocolAt → List Openings → ℕ → List OpeningAt → List Test
each_accept ps all b [] = []
each_accept ps all b (a ∷ as') = (accept_unmet, a.line, meets_gathered ps b a all) ∷ each_accept ps all b as'

-- the accepts of these parties, in order
abbrev pub gathered_tests : List ProtocolAt → List Openings → List Openings → List Test
gathered_tests ps all [] = []
gathered_tests ps all (os ∷ rest) = each_accept ps all os.party (openings_of os.accepts.items) ++ gathered_tests ps all rest
