-- How a party stands, settled worlds, and how they end.
use Rattle.std.specs.Prelude.{◌≡◌, ℕ, ◌+◌, nat_lt, Bool, true, false, ◌&&◌, List, [], ◌∷◌, length, slice_get, Option, Some, None, is_some, if◌then◌else◌}
use Rattle.std.specs.List.{list_any, list_all}
use Rattle.sj_semantics.specs.declared.Want.{Want}
use Rattle.sj_semantics.specs.declared.Want.TheVariants as wants
use Rattle.sj_semantics.specs.declared.State.{State}
use Rattle.sj_semantics.specs.declared.State.TheVariants as states
use Rattle.sj_semantics.specs.declared.Limit.TheVariants as limits
use Rattle.sj_semantics.specs.declared.Opened.{Opened}
use Rattle.sj_semantics.specs.declared.Verdict.{Verdict}
use Rattle.sj_semantics.specs.declared.Verdict.TheVariants as verdicts
use Rattle.sj_semantics.specs.Program.{Program, limit_of_steps}
use Rattle.sj_semantics.specs.Wants.{want_of}
use Rattle.sj_semantics.specs.World.{World, act_of}
use Rattle.sj_semantics.specs.Ends.{end_at, next_for, limit_of_hops}
use Rattle.sj_semantics.specs.Requests.{limit_of_requests, first_offer, opened_from}

-- a party that hasn't ended and has steps left stands so
abbrev pub state_by : World → ℕ → Want → State
state_by w p wants.Ended = states.Ended
state_by w p (wants.Delegate e y) = if nat_lt (end_at w.sessions y).hops limit_of_hops then states.Ready else states.AtLimit (limits.Hops y)
state_by w p (wants.Take e a) = if is_some (next_for w.sessions e) then states.Ready else states.Waits e
state_by w p (wants.Request n q) = if nat_lt (length (w.requests p)) limit_of_requests then states.Ready else states.AtLimit limits.Requests
state_by w p (wants.Accept n q) = if is_some (first_offer p (w.requests q)) then states.Ready else states.WaitsOpen q
state_by w p _ = states.Ready

-- the first that applies: ended, without a step left, at an end that is delegated no more or at a
-- request that is one too many, waiting, ready
abbrev pub state_wanting : World → ℕ → ℕ → Want → State
state_wanting w p steps wants.Ended = states.Ended
state_wanting w p steps want = if nat_lt steps limit_of_steps then state_by w p want else states.AtLimit limits.Steps

-- no program of an accepted file is ever stuck; one that is counts as ended
abbrev pub state_wanting_if : World → ℕ → ℕ → Option Want → State
state_wanting_if w p steps None = states.Ended
state_wanting_if w p steps (Some want) = state_wanting w p steps want

-- how party p stands with that program
abbrev pub state_of_program : World → ℕ → Program → State
state_of_program w p g = state_wanting_if w p g.steps (want_of g)

-- a party that isn't there has ended
abbrev pub state_if : World → ℕ → Option Program → State
state_if w p None = states.Ended
state_if w p (Some g) = state_of_program w p g

-- how the party stands
abbrev pub state_of : World → ℕ → State
state_of w p = state_if w p (slice_get w.parties p)

-- how parties with these programs stand, the first of them party p
abbrev pub states_from : World → ℕ → List Program → List State
states_from w p [] = []
states_from w p (g ∷ gs) = state_of_program w p g ∷ states_from w (p + 1) gs

-- how all parties stand
abbrev pub states_of : World → List State
states_of w = states_from w 0 w.parties

-- the sessions that were opened, in order of their numbers
abbrev pub opened_in : World → List Opened
opened_in w = opened_from w.requests (length w.parties) 0

-- the session was accepted
abbrev pub is_accepted : Opened → Bool
is_accepted o = is_some o.second

-- nobody can act
abbrev pub IsSettled : World → Type 0
IsSettled w = (p : ℕ) → act_of w p ≡ None

-- at a limit
abbrev pub is_at_limit : State → Bool
is_at_limit (states.AtLimit l) = true
is_at_limit _ = false

-- ended
abbrev pub has_ended : State → Bool
has_ended states.Ended = true
has_ended _ = false

-- everybody has ended, and each session that was opened was accepted
abbrev pub is_done : World → Bool
is_done w = list_all has_ended (states_of w) && list_all is_accepted (opened_in w)

-- long where somebody is at a limit, else done or blocked
abbrev pub verdict_of : World → Verdict
verdict_of w = if list_any is_at_limit (states_of w) then verdicts.Long else (if is_done w then verdicts.Done else verdicts.Blocked)
