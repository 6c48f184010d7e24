-- Why a party that is played by code of its own makes no call, and where it holds nothing open.
use Rattle.std.specs.Prelude.{◌≡◌, ℕ, ◌≤◌, List, [], ◌∷◌, length, Some, None}
use Rattle.sj_base.specs.declared.EndId.{EndId}
use Rattle.sj_lang.specs.Place.{Place, done}
use Rattle.sj_semantics.specs.Ends.{end_at, limit_of_hops, next_for}
use Rattle.sj_semantics.specs.Program.{limit_of_steps}
use Rattle.sj_semantics.specs.Requests.{first_offer, limit_of_requests}
use Rattle.sj_rules.specs.Node as wanted
use Rattle.sj_seat_laws.specs.Calls as calls
use Rattle.sj_seat_laws.specs.Calls.{Call, SeatedAt, place_held}
use Rattle.sj_seat_laws.specs.Guards.{want_of_call}
use Rattle.sj_seat_laws.specs.SeatedWorld.{SeatedWorld}

-- why the code makes no call. It made all that it may, it makes none, the next one isn't guarded,
-- nothing is there to take, or the end was delegated so often; it requested so many sessions, or
-- nothing is offered to it
pub data IsResting (p : ℕ) (t : SeatedWorld) : Type 0 where
  worn : limit_of_steps ≤ t.seat.steps → IsResting p t
  left : t.seat.calls ≡ [] → IsResting p t
  unguarded : (c : Call) (cs : List Call) → t.seat.calls ≡ c ∷ cs → want_of_call t.seat.may t.seat.ends c ≡ wanted.ended → IsResting p t
  waits : (e : EndId) (cs : List Call) → t.seat.calls ≡ calls.takes e ∷ cs → next_for t.world.sessions e ≡ None → IsResting p t
  handed_enough : (c e : EndId) (cs : List Call) → t.seat.calls ≡ calls.delegates c e ∷ cs → limit_of_hops ≤ (end_at t.world.sessions e).hops → IsResting p t
  requested_enough : (q n : ℕ) (cs : List Call) → t.seat.calls ≡ calls.requests q n ∷ cs → limit_of_requests ≤ length (t.world.requests p) → IsResting p t
  no_offer : (q n : ℕ) (cs : List Call) → t.seat.calls ≡ calls.accepts q n ∷ cs → first_offer p (t.world.requests q) ≡ None → IsResting p t

-- nothing is ahead of any end that the code holds
abbrev pub HoldsNoOpenEnd : SeatedAt → Type 0
HoldsNoOpenEnd s = (e : EndId) (place : Place) → place_held s.ends e ≡ Some place → place ≡ done
