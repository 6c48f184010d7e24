-- The ends of sessions, and what is on its way to them.
use Rattle.std.specs.Prelude.{ℕ, zero, suc, ◌==◌, Bool, true, false, ◌&&◌, List, [], map, length, drop, slice_get, Option, option_map, unwrap_or}
use Rattle.sj_base.specs.declared.EndId.{EndId}
use Rattle.sj_base.specs.declared.Msg.{Msg}
use Rattle.sj_lang.specs.Place.{Place, done}
use Rattle.sj_semantics.specs.declared.Passed.{Passed}

-- an end is delegated so often at most
abbrev pub limit_of_hops : ℕ
limit_of_hops = 100

-- an end: its place, all that was sent on it, who took the first messages of the other end, and
-- how often it was delegated
pub record EndAt : Type 0 where
  pub place : Place
  pub sent : List Passed
  pub takers : List ℕ
  pub hops : ℕ

-- its end of side 0 and its end of side 1
pub record Session : Type 0 where
  pub first : EndAt
  pub second : EndAt

-- the end of that side
abbrev pub end_on : ℕ → Session → EndAt
end_on zero z = z.first
end_on (suc n) z = z.second

-- the side of the other end
abbrev pub other_side : ℕ → ℕ
other_side zero = 1
other_side (suc n) = 0

-- the other end of the session
abbrev pub other_end : EndId → EndId
other_end e = record { sess = e.sess; side = other_side e.side }

-- the two name one side
abbrev pub is_same_side : ℕ → ℕ → Bool
is_same_side zero zero = true
is_same_side (suc m) (suc n) = true
is_same_side _ _ = false

-- the two name one end
abbrev pub is_end : EndId → EndId → Bool
is_end e f = (e.sess == f.sess) && is_same_side e.side f.side

-- the end that no session has
abbrev pub nowhere : EndAt
nowhere = record { place = done; sent = []; takers = []; hops = 0 }

-- a session that isn't opened
abbrev pub unopened : Session
unopened = record { first = nowhere; second = nowhere }

-- the end by its name
abbrev pub end_at : List Session → EndId → EndAt
end_at zs e = unwrap_or (option_map (end_on e.side) (slice_get zs e.sess)) nowhere

-- the next message that the end can take: of those that the other end sent,
-- the first that wasn't taken
abbrev pub next_for : List Session → EndId → Option Passed
next_for zs e = slice_get (end_at zs (other_end e)).sent (length (end_at zs e).takers)

-- the messages that the other end sent and this end hasn't taken
abbrev pub untaken_for : List Session → EndId → List Msg
untaken_for zs e = map (λ x. x.msg) (drop (length (end_at zs e).takers) (end_at zs (other_end e)).sent)
