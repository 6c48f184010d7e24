-- The plain world in which several parties are played by code of their own, its acts, and its runs.
use Rattle.std.specs.Prelude.{ℕ, List, [], ◌∷◌, slice_get, Option, Some, None, option_map, option_and_then, unwrap_or}
use Rattle.sj_lang.specs.Place.{Place}
use Rattle.sj_semantics.specs.Program.{Program}
use Rattle.sj_semantics.specs.Uses.{altered_list}
use Rattle.sj_semantics.specs.World.{World, act_of}
use Rattle.sj_rules.specs.Plain.{plain_at}
use Rattle.sj_rules.specs.PlainSide.{PlainAt}
use Rattle.sj_seat_laws.specs.Calls.{SeatedAt}
use Rattle.sj_seat_laws.specs.SeatedPlay.{Player, seated, written}
use Rattle.sj_seat_laws.specs.SeatedWorld.{SeatedWorld, after_doing, beside, doing_of}

-- party by party, what it is where it is played by code of its own
abbrev pub Seats : Type 0
Seats = List (Option SeatedAt)

-- what that party is, where it is played by code of its own
abbrev pub seat_of : Seats → ℕ → Option SeatedAt
seat_of seats q = unwrap_or (slice_get seats q) None

-- the plain world, in which these parties have nothing to do, and the parties beside it
pub record SeatsWorld : Type 0 where
  pub world : World
  pub seats : Seats

-- the same parties beside another world
abbrev pub all_beside : Seats → World → SeatsWorld
all_beside seats w = record { world = w; seats = seats }

-- one of them and its world as they are there
abbrev pub with_seat : ℕ → Seats → SeatedWorld → SeatsWorld
with_seat q seats u = record { world = u.world; seats = altered_list seats q (λ o. Some u.seat) }

-- the next act of a party: its next call, or its next statement
abbrev pub seats_act_by : SeatsWorld → ℕ → Option SeatedAt → Option SeatsWorld
seats_act_by t q None = option_map (all_beside t.seats) (act_of t.world q)
seats_act_by t q (Some s) = option_map (λ d. with_seat q t.seats (after_doing q (beside s t.world) d)) (doing_of q (beside s t.world))

abbrev pub seats_act : SeatsWorld → ℕ → Option SeatsWorld
seats_act t q = seats_act_by t q (seat_of t.seats q)

-- one act after another
abbrev pub after_seats : SeatsWorld → List ℕ → Option SeatsWorld
after_seats t [] = Some t
after_seats t (q ∷ qs) = option_and_then (λ u. after_seats u qs) (seats_act t q)

-- who plays a party
abbrev pub player_by : Option SeatedAt → Program → Player
player_by None g = written g
player_by (Some s) g = seated s

-- what the rules see of it
abbrev pub seats_seen : SeatsWorld → PlainAt Place Player
seats_seen t = record {
  programs = λ q. player_by (seat_of t.seats q) ((plain_at t.world).programs q);
  sides = (plain_at t.world).sides;
  requests = (plain_at t.world).requests;
  offers = (plain_at t.world).offers;
}
