-- A party that is played by code of its own, before its first call.
use Rattle.std.specs.Prelude.{ℕ, nat_lt, List, [], filter, length, map, slice_get, Option, Some, None}
use Rattle.sj_lang.specs.Place.{Place}
use Rattle.sj_lang.specs.FileAt.{FileAt, PartyAt, body_named, ends_from, number_of_name, party_names}
use Rattle.sj_acceptance.specs.Openings.{OpeningAt, accepts_of, requests_of}
use Rattle.sj_semantics.specs.Ends.{end_at}
use Rattle.sj_semantics.specs.Program.{Program}
use Rattle.sj_semantics.specs.Value.{no_vars}
use Rattle.sj_semantics.specs.World.{start_of}
use Rattle.sj_rules.specs.Node.{NodeAt}
use Rattle.sj_seat_laws.specs.Calls.{Call, Ends, MayOpen, Openings, SeatedAt}
use Rattle.sj_seat_laws.specs.SeatedPlay.{Player}

-- nothing to do, no ends, no steps
abbrev pub no_program : FileAt → Program
no_program file = record { todo = []; vars = no_vars; ends = []; steps = 0; peers = party_names file.parties }

-- the ends that connections give the party, at their places
abbrev pub connected_ends : FileAt → ℕ → Ends
connected_ends file p = map (λ b. (b.1, (end_at (start_of file).sessions b.1).place)) (ends_from file p 0 file.connects)

-- the session of a statement, with that party by its number
abbrev pub may_open : FileAt → OpeningAt → MayOpen
may_open file o = record { party = number_of_name (party_names file.parties) o.party; protocol = o.protocol; place = body_named file.protocols o.protocol }

-- those of statements whose other party is there
abbrev pub openings_by : FileAt → List OpeningAt → List MayOpen
openings_by file os = filter (λ m. nat_lt m.party (length file.parties)) (map (may_open file) os)

-- code of its own opens the sessions that the party's statements open
abbrev pub openings_of : FileAt → Option PartyAt → Openings
openings_of file None = record { requests = []; accepts = [] }
openings_of file (Some q) = record { requests = openings_by file (requests_of q.code); accepts = openings_by file (accepts_of q.code) }

-- the party before its first call
abbrev pub seat_start : FileAt → ℕ → List Call → SeatedAt
seat_start file p calls = record { ends = connected_ends file p; steps = 0; calls = calls; may = openings_of file (slice_get file.parties p) }

-- a node with another program
abbrev pub played_by : Player → NodeAt Place Program → NodeAt Place Player
played_by g n = record { program = g; clock = n.clock; requests = n.requests; offers = n.offers; main = n.main; old = n.old }
