-- The step that a call of a node is, at the places for which its spots stand, and the call of the
-- laws.
use Rattle.std.specs.Prelude.{◌≡◌, ℕ, ◌<◌, ⊤, Some}
use Rattle.sj_lang.specs.Place.{Place}
use Rattle.sj_node.specs.declared.seats.Call as seats
use Rattle.sj_node.specs.declared.seats.Call.TheVariants.{Send, Delegate, Take, Close}
use Rattle.sj_rules.specs.Limits.{limit_of_steps}
use Rattle.sj_rules.specs.Node as wanted
use Rattle.sj_rules.specs.Node.{Want}
use Rattle.sj_seat_laws.specs.Calls.{Call, Ends, Openings, closes, delegates, place_held, sends, takes}
use Rattle.sj_seat_laws.specs.Guards.{opened_place, want_of_call, want_of_take}
use Rattle.sj_table.specs.declared.table.Spot.{Spot}
use Rattle.sj_table.specs.declared.table.Table.{Table}
use Rattle.sj_table.specs.Spots.{place_in}
use Rattle.sj_seat.specs.Wishes.{open_wished}
use Rattle.sj_seat.specs.declared.wish.OpenWish.{OpenWish}
use Rattle.sj_seat.specs.declared.wish.OpenWish.TheVariants.{Request, Accept}

-- the step that it is
abbrev pub want_in : Table → seats.Call → Want Place
want_in t (Send e m) = wanted.sends e m
want_in t (Delegate c e) = wanted.delegates c e
want_in t (Take e place) = wanted.takes e (place_in t place)
want_in t (Close e) = wanted.closes e

-- the call that it is
abbrev pub asked : seats.Call → Call
asked (Send e m) = sends e m
asked (Delegate c e) = delegates c e
asked (Take e place) = takes e
asked (Close e) = closes e

-- it is the step of that call, and calls are left
pub record IsGuarded (t : Table) (os : Openings) (bs : Ends) (calls : ℕ) (call : seats.Call) : Type 0 where
  pub want : want_in t call ≡ want_of_call os bs (asked call)
  pub few : calls < limit_of_steps

-- the place that it gives an end that it takes is the one at which that end begins
abbrev pub GivesPlace : Table → Ends → seats.Call → Type 0
GivesPlace t bs (Take e place) = wanted.takes e (place_in t place) ≡ want_of_take e (place_held bs e)
GivesPlace t bs _ = ⊤

-- ---- a session that is opened

-- the step that it is, where the party's own end begins at that place
abbrev pub want_opening : Place → OpenWish → Want Place
want_opening place (Request q n) = wanted.requests place q
want_opening place (Accept q n) = wanted.accepts place q

-- the party may open it, and its own end begins there; it is the step of that call, and calls are left
pub record IsOpenable (t : Table) (os : Openings) (bs : Ends) (calls : ℕ) (wish : OpenWish) (spot : Spot) : Type 0 where
  pub begins : opened_place os (open_wished wish) ≡ Some (place_in t spot)
  pub want : want_opening (place_in t spot) wish ≡ want_of_call os bs (open_wished wish)
  pub few : calls < limit_of_steps
