-- How a party stands by what it holds, and which events are steps.
use Rattle.std.specs.Prelude.{ℕ, nat_lt, Bool, true, false, List, [], ◌∷◌, Option, Some, None, if◌then◌else◌}
use Rattle.sj_semantics.specs.declared.Limit.TheVariants as limits
use Rattle.sj_semantics.specs.declared.State.{State}
use Rattle.sj_semantics.specs.declared.State.TheVariants as states
use Rattle.sj_rules.specs.Halts.{is_at_end}
use Rattle.sj_rules.specs.Limits.{limit_of_hops, limit_of_requests}
use Rattle.sj_rules.specs.Play.{Want, ended, local, sends, delegates, takes, closes, requests, accepts, Play}
use Rattle.sj_rules.specs.World.{Event, Act, Deliver}
use Rattle.sj_forward_rules.specs.Node.{NodeAt, HeldAt, held_of}
use Rattle.sj_forward_rules.specs.World.{WorldAt}

-- the list has an element
abbrev pub is_filled : {X : Type 0} → List X → Bool
is_filled [] = false
is_filled (x ∷ xs) = true

-- the end is Held, and may be delegated once more
abbrev pub may_leave : Option HeldAt → Bool
may_leave None = false
may_leave (Some h) = nat_lt h.hop limit_of_hops

-- the end is Held, and a message is there
abbrev pub has_message : Option HeldAt → Bool
has_message None = false
has_message (Some h) = is_filled h.untaken

-- a party that hasn't ended and has steps left stands so: as in the plain world, but that untaken
-- messages and offered sessions are those that lie at the party
abbrev pub state_by : {P Q : Type 0} → NodeAt Q → Want P → State
state_by n ended = states.Ended
state_by n local = states.Ready
state_by n (sends e msg) = states.Ready
state_by n (delegates carrier e) = if may_leave (held_of n e) then states.Ready else states.AtLimit (limits.Hops e)
state_by n (takes e place) = if has_message (held_of n e) then states.Ready else states.Waits e
state_by n (closes e) = states.Ready
state_by n (requests place to) = if nat_lt n.requests limit_of_requests then states.Ready else states.AtLimit limits.Requests
state_by n (accepts place from) = if is_filled (n.offers from) then states.Ready else states.WaitsOpen from

-- the first that applies: ended, no steps left, or by its next step
abbrev pub state_at : {P Q : Type 0} → Play P Q → NodeAt Q → State
state_at play n =
    if is_at_end (play.wants n.program) then states.Ended
    else if play.is_worn n.program then states.AtLimit limits.Steps
    else state_by n (play.wants n.program)

-- it can act
abbrev pub is_ready : State → Bool
is_ready states.Ready = true
is_ready (states.Waits e) = false
is_ready (states.WaitsOpen q) = false
is_ready states.Ended = false
is_ready (states.AtLimit l) = false

-- an event at that party is a step: an act where it is ready by what it holds, a delivery where a
-- frame is in the lane
abbrev pub has_step : {P Q : Type 0} → Play P Q → WorldAt Q → (p : ℕ) → Event → Bool
has_step play w p Act = is_ready (state_at play (w.nodes p))
has_step play w p (Deliver q) = is_filled (w.lanes q p)
