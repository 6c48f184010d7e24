-- What a file asks, in order.
use Rattle.std.specs.Prelude.{ℕ, Bool, true, false, ◌==◌, ◌&&◌, ◌||◌, not, is_some, if◌then◌else◌, List, [], ◌∷◌, ◌++◌, map}
use Rattle.std.specs.Ordering.{nat_cmp}
use Rattle.std.specs.FinMap as finite
use Rattle.std.specs.FinMap.{FinMap}
use Rattle.sj_lang.specs.Place.{Place}
use Rattle.sj_lang.specs.MeetTests.{meets}
use Rattle.sj_lang.specs.FileAt.{FileAt, ProtocolAt, PartyAt, ConnectAt, DeclAt, protocol_named, body_named}
pub use Rattle.sj_lang.specs.FileAt.{party_names}
use Rattle.sj_acceptance.specs.EnvAt.{EnvAt}
use Rattle.sj_acceptance.specs.Sameness.{is_same_ends}
use Rattle.sj_acceptance.specs.Faults.{Test}
use Rattle.sj_acceptance.specs.LabelTests.{is_among, names_once}
use Rattle.sj_acceptance.specs.Tests.{code_tests, after_code}
use Rattle.sj_acceptance.specs.Rules.{no_protocol, no_party, name_in_use, do_not_meet, left_open, accept_unmet}
use Rattle.sj_acceptance.specs.Openings.{OpeningAt, requests_of, accepts_of}

-- the names of protocols
abbrev pub protocol_names : List ProtocolAt → List ℕ
protocol_names ps = map (λ p. p.name) ps

-- each protocol, after the earlier ones
abbrev pub protocol_tests : List ProtocolAt → List ProtocolAt → List Test
protocol_tests earlier [] = []
protocol_tests earlier (p ∷ ps) =
    (name_in_use, p.line, not (is_among p.name (protocol_names earlier))) ∷ (name_in_use, p.line, names_once p.body) ∷ protocol_tests (earlier ++ p ∷ []) ps

-- each party, after the earlier ones
abbrev pub party_tests : List PartyAt → List PartyAt → List Test
party_tests earlier [] = []
party_tests earlier (p ∷ ps) = (name_in_use, p.line, not (is_among p.name (party_names earlier))) ∷ party_tests (earlier ++ p ∷ []) ps

-- two ends of one party with one name
abbrev pub is_same_end : DeclAt → DeclAt → Bool
is_same_end d e = (d.party == e.party) && (d.name == e.name)

-- the party has an end of that name from one of these connections
abbrev pub is_taken : DeclAt → List ConnectAt → Bool
is_taken e [] = false
is_taken e (c ∷ cs) = is_same_end c.first e || is_same_end c.second e || is_taken e cs

-- the end's party, its protocol, and that its name is new
abbrev pub end_tests : List ℕ → List ProtocolAt → ℕ → Bool → DeclAt → List Test
end_tests parties ps line taken e =
    (no_party, line, is_among e.party parties) ∷ (no_protocol, line, is_some (protocol_named ps e.protocol)) ∷ (name_in_use, line, not taken) ∷ []

-- its first end, its second end, and that they meet
abbrev pub connection_tests : List ℕ → List ProtocolAt → List ConnectAt → ConnectAt → List Test
connection_tests parties ps earlier c =
    end_tests parties ps c.line (is_taken c.first earlier) c.first
    ++ end_tests parties ps c.line (is_taken c.second earlier || is_same_end c.first c.second) c.second
    ++ (do_not_meet, c.line, meets (body_named ps c.first.protocol) (body_named ps c.second.protocol)) ∷ []

-- each connection, after the earlier ones
abbrev pub connect_tests : List ℕ → List ProtocolAt → List ConnectAt → List ConnectAt → List Test
connect_tests parties ps earlier [] = []
connect_tests parties ps earlier (c ∷ cs) = connection_tests parties ps earlier c ++ connect_tests parties ps (earlier ++ c ∷ []) cs

-- the ends with this one, where it is the party's
abbrev pub with_end_of : List ProtocolAt → ℕ → DeclAt → FinMap nat_cmp Place → FinMap nat_cmp Place
with_end_of ps party e ends = if e.party == party then finite.insert ends e.name (body_named ps e.protocol) else ends

-- the ends that connections give the party, of two with one name the former
abbrev pub ends_of_party : List ProtocolAt → ℕ → List ConnectAt → FinMap nat_cmp Place
ends_of_party ps party [] = finite.empty
ends_of_party ps party (c ∷ cs) = with_end_of ps party c.first (with_end_of ps party c.second (ends_of_party ps party cs))

-- the party's connected ends, and no variable
abbrev pub at_start : List ProtocolAt → List ConnectAt → ℕ → EnvAt
at_start ps cs party = record { ends = ends_of_party ps party cs; variables = finite.empty }

-- its body, and that no end is live after it
abbrev pub one_body_tests : List ProtocolAt → List ℕ → List ConnectAt → PartyAt → List Test
one_body_tests ps parties cs p =
    code_tests ps parties (at_start ps cs p.name) p.code
    ++ (left_open, p.line, is_same_ends (after_code ps (at_start ps cs p.name) p.code).ends finite.empty) ∷ []

-- the bodies in order
abbrev pub body_tests : List ProtocolAt → List ℕ → List ConnectAt → List PartyAt → List Test
body_tests ps parties cs [] = []
body_tests ps parties cs (p ∷ qs) = one_body_tests ps parties cs p ++ body_tests ps parties cs qs

-- what the party of that name accepts so meets each of these requests that is to that party
abbrev pub meets_each : List ProtocolAt → ℕ → OpeningAt → List OpeningAt → Bool
meets_each ps b a [] = true
meets_each ps b a (r ∷ rs) = (not (r.party == b) || meets (body_named ps r.protocol) (body_named ps a.protocol)) && meets_each ps b a rs

-- so it does for the requests of the party from which it accepts, among these
abbrev pub meets_requests : List ProtocolAt → ℕ → OpeningAt → List PartyAt → Bool
meets_requests ps b a [] = true
meets_requests ps b a (p ∷ qs) = (not (p.name == a.party) || meets_each ps b a (requests_of p.code)) && meets_requests ps b a qs

-- each of these accepts, of the party of that name
abbrev pub accept_tests : List ProtocolAt → List PartyAt → ℕ → List OpeningAt → List Test
accept_tests ps all b [] = []
accept_tests ps all b (a ∷ as') = (accept_unmet, a.line, meets_requests ps b a all) ∷ accept_tests ps all b as'

-- the accepts of these parties, in order
abbrev pub opening_tests : List ProtocolAt → List PartyAt → List PartyAt → List Test
opening_tests ps all [] = []
opening_tests ps all (p ∷ qs) = accept_tests ps all p.name (accepts_of p.code) ++ opening_tests ps all qs

-- protocols, parties, connections, bodies, and sessions opened at run time
abbrev pub tests_of : FileAt → List Test
tests_of f =
    protocol_tests [] f.protocols ++ party_tests [] f.parties
    ++ connect_tests (party_names f.parties) f.protocols [] f.connects ++ body_tests f.protocols (party_names f.parties) f.connects f.parties
    ++ opening_tests f.protocols f.parties f.parties
