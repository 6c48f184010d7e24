-- How parties stand where several are played by code of their own, and the verdict.
use Rattle.std.specs.Prelude.{◌≡◌, ℕ, ◌+◌, nat_lt, ◌&&◌, List, [], ◌∷◌, length, map, Option, Some, None, is_some, if◌then◌else◌}
use Rattle.std.specs.List.{list_all, list_any}
use Rattle.sj_base.specs.declared.EndId.{EndId}
use Rattle.sj_lang.specs.Place.{Place}
use Rattle.sj_semantics.specs.declared.Limit.TheVariants as limits
use Rattle.sj_semantics.specs.declared.Opened.{Opened}
use Rattle.sj_semantics.specs.declared.State.{State}
use Rattle.sj_semantics.specs.declared.State.TheVariants as states
use Rattle.sj_semantics.specs.declared.Verdict.{Verdict}
use Rattle.sj_semantics.specs.declared.Verdict.TheVariants as verdicts
use Rattle.sj_semantics.specs.Ends.{end_at, limit_of_hops, next_for}
use Rattle.sj_semantics.specs.Program.{Program, limit_of_steps}
use Rattle.sj_semantics.specs.Requests.{first_offer, limit_of_requests}
use Rattle.sj_semantics.specs.State.{has_ended, is_accepted, is_at_limit, opened_in, state_of_program}
use Rattle.sj_semantics.specs.World.{World}
use Rattle.sj_rules.specs.Node as wanted
use Rattle.sj_rules.specs.Node.{Want}
use Rattle.sj_told.specs.declared.told.Stand.{Stand}
use Rattle.sj_seat_laws.specs.Calls.{SeatedAt}
use Rattle.sj_seat_laws.specs.Guards.{seated_want}
use Rattle.sj_seat_laws.specs.SeatsWorld.{SeatsWorld, seat_of}
use Rattle.sj_seat_told_laws.specs.FirstOpen.{first_open}

-- ---- a party that is played by code

-- party p with that call next, which is guarded
abbrev pub state_calling : World → ℕ → Want Place → State
state_calling w p (wanted.takes e place) = if is_some (next_for w.sessions e) then states.Ready else states.Waits e
state_calling w p (wanted.delegates c e) = if nat_lt (end_at w.sessions e).hops limit_of_hops then states.Ready else states.AtLimit (limits.Hops e)
state_calling w p (wanted.requests place to) = if nat_lt (length (w.requests p)) limit_of_requests then states.Ready else states.AtLimit limits.Requests
state_calling w p (wanted.accepts place from) = if is_some (first_offer p (w.requests from)) then states.Ready else states.WaitsOpen from
state_calling w p _ = states.Ready

-- while it holds that open end: one that makes no further call leaves the end waiting
abbrev pub state_holding : World → ℕ → EndId → ℕ → Want Place → State
state_holding w p e steps wanted.ended = states.Waits e
state_holding w p e steps want = if nat_lt steps limit_of_steps then state_calling w p want else states.AtLimit limits.Steps

-- one that holds no open end has ended, whatever it still closes or would open
abbrev pub state_by_open : World → ℕ → ℕ → Want Place → Option EndId → State
state_by_open w p steps want None = states.Ended
state_by_open w p steps want (Some e) = state_holding w p e steps want

abbrev pub state_of_seat : World → ℕ → SeatedAt → State
state_of_seat w p s = state_by_open w p s.steps (seated_want s) (first_open s.ends)

-- ---- each party

-- with that program, or by its code
abbrev pub player_state : World → ℕ → Program → Option SeatedAt → State
player_state w p g None = state_of_program w p g
player_state w p g (Some s) = state_of_seat w p s

abbrev pub player_steps : Program → Option SeatedAt → ℕ
player_steps g None = g.steps
player_steps g (Some s) = s.steps

-- of parties with these programs, the first of them party p
abbrev pub seats_states_from : SeatsWorld → ℕ → List Program → List State
seats_states_from t p [] = []
seats_states_from t p (g ∷ gs) = player_state t.world p g (seat_of t.seats p) ∷ seats_states_from t (p + 1) gs

abbrev pub seats_steps_from : SeatsWorld → ℕ → List Program → List ℕ
seats_steps_from t p [] = []
seats_steps_from t p (g ∷ gs) = player_steps g (seat_of t.seats p) ∷ seats_steps_from t (p + 1) gs

-- how all parties stand
abbrev pub seats_states : SeatsWorld → List State
seats_states t = seats_states_from t 0 t.world.parties

-- the steps and calls of all
abbrev pub seats_steps : SeatsWorld → List ℕ
seats_steps t = seats_steps_from t 0 t.world.parties

pub record AreSeatsStands (t : SeatsWorld) (stands : List Stand) : Type 0 where
  pub steps : map (λ s. s.steps) stands ≡ seats_steps t
  pub states : map (λ s. s.state) stands ≡ seats_states t

-- ---- the verdict

-- by how the parties stand, and by the sessions that were opened
abbrev pub verdict_with : List Stand → List Opened → Verdict
verdict_with stands sessions =
    if list_any (λ s. is_at_limit s.state) stands then verdicts.Long
    else (if list_all (λ s. has_ended s.state) stands && list_all is_accepted sessions then verdicts.Done else verdicts.Blocked)

-- long where somebody is at a limit, else done where everybody has ended and each session that was
-- opened was accepted, else blocked
abbrev pub seats_verdict : SeatsWorld → Verdict
seats_verdict t =
    if list_any is_at_limit (seats_states t) then verdicts.Long
    else (if list_all has_ended (seats_states t) && list_all is_accepted (opened_in t.world) then verdicts.Done else verdicts.Blocked)
