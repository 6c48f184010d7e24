-- What a party's next step makes of the party, of the sessions and of the requests.
use Rattle.std.specs.Prelude.{◌≡◌, ℕ, [], List, map, Option, option_map}
use Rattle.sj_semantics.specs.declared.Opened.{Opened}
use Rattle.sj_semantics.specs.Ends as model
use Rattle.sj_semantics.specs.Program.{Program}
use Rattle.sj_semantics.specs.Requests.{Requests, after_opening}
use Rattle.sj_semantics.specs.Uses.{after_uses, altered_session}
use Rattle.sj_semantics.specs.World.{World, Change, change_of_program}
use Rattle.sj_plain.specs.declared.ends.Session.{Session}
use Rattle.sj_table.specs.declared.table.Table.{Table}
use Rattle.sj_plain.specs.Ends.{protocols_in, session_at}
use Rattle.sj_plain.specs.Opened.{requests_in, world_with}

-- sessions, apart from how they lie in memory
abbrev pub sessions_at : Table → List Session → List model.Session
sessions_at t zs = map (session_at t) zs

-- the sessions, of which those up to that number are there
abbrev pub reached : List model.Session → ℕ → List model.Session
reached zs s = altered_session zs s (λ z. z)

-- the world around a party, with the protocols at which the table starts
abbrev pub world_around : Table → List Session → List Opened → World
world_around t zs os = world_with (protocols_in t) [] (sessions_at t zs) os

-- the party, the sessions and the requests after the change
abbrev pub after_change : ℕ → World → Change → Program × List model.Session × Requests
after_change p w c = (c.program, after_uses p c.uses w.sessions, after_opening p c.opening w.requests)

-- the party, the sessions and the requests after the next step of party p, where it is ready
abbrev pub next_move : ℕ → World → Program → Option (Program × List model.Session × Requests)
next_move p w g = option_map (after_change p w) (change_of_program w p g)

-- the program, the sessions and the opened sessions are what the change makes of the old
-- sessions and opened ones
pub record Makes (t : Table) (p : ℕ) (c : Change) (zs ys : List Session) (old new : List Opened) (h : Program) : Type 0 where
  pub program : h ≡ c.program
  pub sessions : sessions_at t ys ≡ after_uses p c.uses (sessions_at t zs)
  pub requests : (q : ℕ) → requests_in new q ≡ after_opening p c.opening (requests_in old) q
