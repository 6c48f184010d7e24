-- The ends and sessions of a running world, as contracts see them.
use Rattle.std.specs.Prelude.{◌≡◌, ℕ, List, length, map, slice_get, Option}
use Rattle.sj_lang.specs.Dual.{dual_of}
use Rattle.sj_lang.specs.FileAt.{ProtocolAt, ConnectAt, body_named}
use Rattle.sj_lang.specs.Place.{Place}
use Rattle.sj_semantics.specs.declared.Passed.{Passed}
use Rattle.sj_semantics.specs.Ends as model
use Rattle.sj_semantics.specs.Ends.{EndAt, end_on, other_side}
use Rattle.sj_semantics.specs.World.{fresh}
use Rattle.sj_table.specs.declared.table.Table.{Table}
use Rattle.sj_table.specs.Spots.{place_in, start_in}
use Rattle.sj_plain.specs.declared.ahead.Ahead.{Ahead}
use Rattle.sj_plain.specs.declared.ahead.Ahead.TheVariants.{At, Against, Own}
use Rattle.sj_plain.specs.declared.ends.PlainEnd.{PlainEnd}
use Rattle.sj_plain.specs.declared.ends.Session.{Session}

-- the table starts at the bodies of these protocols
abbrev pub StartsAt : Table → List ProtocolAt → Type 0
StartsAt t ps = (p : ℕ) → start_in t p ≡ body_named ps p

-- the protocols at which the table starts
abbrev pub protocols_in : Table → List ProtocolAt
protocols_in t = map (λ s. record { line = 0; name = s.0; body = place_in t s.1 }) t.1

-- the place that is ahead, where spots are those of the table
abbrev pub ahead_of : Table → Ahead → Place
ahead_of t (At s) = place_in t s
ahead_of t (Against s) = dual_of (place_in t s)
ahead_of t (Own p) = p

-- an end, apart from how it lies in memory
abbrev pub end_view : Table → PlainEnd → EndAt
end_view t e = record { place = ahead_of t e.place; sent = e.sent.items; takers = e.takers.items; hops = e.hops }

-- a session, apart from how it lies in memory
abbrev pub session_at : Table → Session → model.Session
session_at t z = record { first = end_view t z.first; second = end_view t z.second }

-- the session that a connection makes where the table's protocols start, before any act
abbrev pub connected_session : Table → ConnectAt → model.Session
connected_session t c = record { first = fresh (start_in t c.first.protocol); second = fresh (start_in t c.second.protocol) }

-- of what the other end sent, the first that the end of that side hasn't taken
abbrev pub next_on : ℕ → model.Session → Option Passed
next_on d z = slice_get (end_on (other_side d) z).sent (length (end_on d z).takers)
