-- A party that is played by code of its own, the world beside it, and what its calls do there.
use Rattle.std.specs.Prelude.{ℕ, nat_lt, length, not, if◌then◌else◌, List, [], ◌∷◌, Option, Some, None, option_map}
use Rattle.sj_base.specs.declared.EndId.{EndId}
use Rattle.sj_base.specs.declared.Msg.{Msg}
use Rattle.sj_lang.specs.Dual.{dual_of}
use Rattle.sj_lang.specs.Place.{Place}
use Rattle.sj_semantics.specs.Ends.{end_at, limit_of_hops, next_for}
use Rattle.sj_semantics.specs.Program.{limit_of_steps}
use Rattle.sj_semantics.specs.Requests.{Opening, accepts, after_opening, first_offer, limit_of_requests, no_opening, opened_number, requests}
use Rattle.sj_semantics.specs.Uses as uses
use Rattle.sj_semantics.specs.Uses.{Use, after_uses}
use Rattle.sj_semantics.specs.World.{World, begun_by, session_message}
use Rattle.sj_rules.specs.Node as wanted
use Rattle.sj_rules.specs.Node.{Want}
use Rattle.sj_seat_laws.specs.Calls.{Call, SeatedAt}
use Rattle.sj_seat_laws.specs.Guards.{called_by, opened_by, seated_want}

-- the plain world, in which that party has nothing to do, and the party beside it
pub record SeatedWorld : Type 0 where
  pub world : World
  pub seat : SeatedAt

-- what a call does: what it takes, which end it opens, which ends it uses, and what it does to
-- requests
pub record Doing : Type 0 where
  pub taken : Option Msg
  pub opened : Option EndId
  pub uses : List (EndId × Use)
  pub opening : Opening

-- a call that opens no session
abbrev pub plain_doing : Option Msg → List (EndId × Use) → Doing
plain_doing taken us = record { taken = taken; opened = None; uses = us; opening = no_opening }

-- code of its own has no names for ends
abbrev pub no_name : ℕ
no_name = 0

-- the session of that number is requested of the party
abbrev pub requesting : (sess : ℕ) → Place → (to : ℕ) → Doing
requesting s place q = record {
  taken = None;
  opened = Some (record { sess = s; side = 0 });
  uses = (record { sess = s; side = 0 }, uses.begins place) ∷ (record { sess = s; side = 1 }, uses.begins (dual_of place)) ∷ [];
  opening = requests (record { to = q; first = no_name; second = None });
}

-- the party's request of number k is accepted
abbrev pub accepting : (from : ℕ) → Place → (k : ℕ) → Doing
accepting q place k = record {
  taken = None;
  opened = Some (record { sess = opened_number q k; side = 1 });
  uses = (record { sess = opened_number q k; side = 1 }, uses.begins place) ∷ [];
  opening = accepts q k no_name;
}

-- what the step does now; None where it can't be done
abbrev pub doing_by : ℕ → World → Want Place → Option Doing
doing_by p w (wanted.sends e m) = Some (plain_doing None ((e, uses.sends m) ∷ []))
doing_by p w (wanted.delegates c e) =
    if nat_lt (end_at w.sessions e).hops limit_of_hops
    then Some (plain_doing None ((e, uses.delegates) ∷ (c, uses.sends (session_message e p)) ∷ []))
    else None
doing_by p w (wanted.takes e place) = option_map (λ x. plain_doing (Some x.msg) ((e, uses.takes x.msg) ∷ begun_by place x.msg)) (next_for w.sessions e)
doing_by p w (wanted.closes e) = Some (plain_doing None [])
doing_by p w wanted.ended = None
doing_by p w wanted.local = None
doing_by p w (wanted.requests place to) =
    if nat_lt (length (w.requests p)) limit_of_requests then Some (requesting (opened_number p (length (w.requests p))) place to) else None
doing_by p w (wanted.accepts place from) = option_map (accepting from place) (first_offer p (w.requests from))

-- the world in which the party used ends so
abbrev pub world_after : ℕ → List (EndId × Use) → World → World
world_after p us w = record { protocols = w.protocols; parties = w.parties; sessions = after_uses p us w.sessions; requests = w.requests }

-- and opened or accepted a session
abbrev pub world_opened : ℕ → Opening → List (EndId × Use) → World → World
world_opened p o us w = record { protocols = w.protocols; parties = w.parties; sessions = after_uses p us w.sessions; requests = after_opening p o w.requests }

-- what the party's next call does now, where it has calls left
abbrev pub doing_of : ℕ → SeatedWorld → Option Doing
doing_of p t = if not (nat_lt t.seat.steps limit_of_steps) then None else doing_by p t.world (seated_want t.seat)

abbrev pub seat_by : SeatedAt → List Call → Option Msg → Option EndId → SeatedAt
seat_by s cs taken None = called_by s cs taken
seat_by s cs taken (Some e) = opened_by s cs e

-- the party after its next call, which took the message or opened the end
abbrev pub seat_after : SeatedAt → Option Msg → Option EndId → SeatedAt
seat_after s taken o = seat_by s s.calls taken o

-- both after the call
abbrev pub after_doing : ℕ → SeatedWorld → Doing → SeatedWorld
after_doing p t d = record { world = world_opened p d.opening d.uses t.world; seat = seat_after t.seat d.taken d.opened }

-- the same party beside another world
abbrev pub beside : SeatedAt → World → SeatedWorld
beside s w = record { world = w; seat = s }
