-- Why a party can't act now.
use Rattle.std.specs.Prelude.{ℕ, nat_lt, Bool, true, false, not, if◌then◌else◌, List, [], ◌∷◌, Option, Some, None}
use Rattle.sj_base.specs.declared.EndId.{EndId}
use Rattle.sj_rules.specs.Limits.{limit_of_hops, limit_of_requests}
use Rattle.sj_rules.specs.Record.{MainAt, Held, Closed, Expected}
use Rattle.sj_rules.specs.Node.{Want, ended, local, sends, delegates, takes, closes, requests, accepts, Play, NodeAt}

-- the program is at its end, or has done its steps; a named end is awaited; the end was delegated
-- too often; no message is there. Or it opened too many sessions; or that party offers none
pub data Halt : Type 0 where
  at_end : Halt
  worn : Halt
  awaits : EndId → Halt
  delegated_enough : EndId → Halt
  no_message : EndId → Halt
  requested_enough : Halt
  no_offer : (from : ℕ) → Halt

-- the record is an Expected one
abbrev pub is_expected : {P : Type 0} → Option (MainAt P) → Bool
is_expected (Some (Expected keeper place deferred)) = true
is_expected (Some (Held h)) = false
is_expected (Some (Closed e)) = false
is_expected None = false

-- the end was delegated as often as it may be; one that isn't Held there wasn't
abbrev pub is_delegated_enough : {P : Type 0} → Option (MainAt P) → Bool
is_delegated_enough (Some (Held h)) = not (nat_lt h.end.hops limit_of_hops)
is_delegated_enough (Some (Closed e)) = false
is_delegated_enough (Some (Expected keeper place deferred)) = false
is_delegated_enough None = false

-- the list has no element
abbrev pub is_empty : {X : Type 0} → List X → Bool
is_empty [] = true
is_empty (x ∷ xs) = false

-- the end is Held, and no message is there; one that isn't Held there lacks none
abbrev pub lacks_message : {P : Type 0} → Option (MainAt P) → Bool
lacks_message (Some (Held h)) = is_empty h.untaken
lacks_message (Some (Closed e)) = false
lacks_message (Some (Expected keeper place deferred)) = false
lacks_message None = false

-- this cause where the test says so, else the next ones
abbrev pub halt_if : Bool → Halt → Option Halt → Option Halt
halt_if b h rest = if b then Some h else rest

-- the causes of a next step, in order: an awaited end, an end with too many handovers, no message;
-- too many requests; no offer. That an end is nowhere at the party is none of them
abbrev pub halt_by : {P Q : Type 0} → NodeAt P Q → Want P → Option Halt
halt_by n ended = Some at_end
halt_by n local = None
halt_by n (sends e msg) = halt_if (is_expected (n.main e)) (awaits e) None
halt_by n (delegates carrier e) =
    halt_if (is_expected (n.main carrier)) (awaits carrier)
    (halt_if (is_expected (n.main e)) (awaits e) (halt_if (is_delegated_enough (n.main e)) (delegated_enough e) None))
halt_by n (takes e place) = halt_if (is_expected (n.main e)) (awaits e) (halt_if (lacks_message (n.main e)) (no_message e) None)
halt_by n (closes e) = halt_if (is_expected (n.main e)) (awaits e) None
halt_by n (requests place to) = halt_if (not (nat_lt n.requests limit_of_requests)) requested_enough None
halt_by n (accepts place from) = halt_if (is_empty (n.offers from)) (no_offer from) None

-- the program has no next step
abbrev pub is_at_end : {P : Type 0} → Want P → Bool
is_at_end ended = true
is_at_end local = false
is_at_end (sends e msg) = false
is_at_end (delegates carrier e) = false
is_at_end (takes e place) = false
is_at_end (closes e) = false
is_at_end (requests place to) = false
is_at_end (accepts place from) = false

-- the first cause that applies
abbrev pub halt_of : {P Q : Type 0} → Play P Q → NodeAt P Q → Option Halt
halt_of play n = halt_if (is_at_end (play.wants n.program)) at_end (halt_if (play.is_worn n.program) worn (halt_by n (play.wants n.program)))
