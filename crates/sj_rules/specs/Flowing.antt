-- What waits for an end r is on its way, or its session's other end s owes it.
use Rattle.std.specs.Prelude.{◌≡◌, ◌⊎◌, ℕ, ◌+◌, ◌≤◌, ◌&&◌, ◌==◌, if◌then◌else◌, ⊤, List, [], ◌++◌, filter_map, Contains, Option, Some, None}
use Rattle.std.specs.List.{AllByRecursion}
use Rattle.sj_base.specs.declared.EndId.{EndId}
use Rattle.sj_base.specs.declared.Msg.{Msg}
use Rattle.sj_rules.specs.Record.{BodyAt, Carry, Fin, Claim, Signal, Ack, Give, Open, is_same_end}
use Rattle.sj_rules.specs.World.{WorldAt}
use Rattle.sj_rules.specs.Seat.{Seat, held, parked, claimed, signalled, given, closed, gone, Side}
use Rattle.sj_rules.specs.Shown.{bodies}

-- the message that a Carry carries to the end under that number
abbrev pub carried_under : {P : Type 0} → EndId → ℕ → BodyAt P → Option Msg
carried_under e c (Carry to conn number taken msg) = if is_same_end to e && (conn == c) then Some msg else None
carried_under e c (Fin to conn number) = None
carried_under e c (Claim of) = None
carried_under e c (Signal to conn party taken) = None
carried_under e c (Ack of conn) = None
carried_under e c (Give end resend) = None
carried_under e c (Open sess) = None

-- all of them, in order
abbrev pub carries_under : {P : Type 0} → EndId → ℕ → List (BodyAt P) → List Msg
carries_under e c bs = filter_map (carried_under e c) bs

-- a Carry goes to that end under that number; of other frames nothing is asked
abbrev pub IsUnder : {P : Type 0} → EndId → ℕ → BodyAt P → Type 0
IsUnder e c (Carry to conn number taken msg) = (to ≡ e) × (conn ≡ c)
IsUnder e c _ = ⊤

-- the deferred Carries are all of the coming number, and they are, followed by those in the lane,
-- what waits
pub record FlowsDeferred {P : Type 0} (e : EndId) (coming : ℕ) (deferred lane : List (BodyAt P)) (waiting : List Msg) : Type 0 where
  pub under : AllByRecursion (IsUnder e coming) deferred
  pub waits : carries_under e coming (deferred ++ lane) ≡ waiting

-- the party at which an end lies
abbrev pub party_of : {P : Type 0} → Seat P → Option ℕ
party_of (held at h) = Some at
party_of (parked at e) = Some at
party_of (claimed at to e) = Some at
party_of (signalled at to e deferred) = Some at
party_of (closed at e) = Some at
party_of (given at to e resend deferred) = None
party_of gone = None

-- the lane from the party of s, or nothing where s lies at no party
abbrev pub lane_from : {P Q : Type 0} → WorldAt P Q → Option ℕ → ℕ → List (BodyAt P)
lane_from w None at = []
lane_from w (Some from) at = bodies (w.lanes from at)

-- what waits for r is what its record and the lane to it hold. At a Held end that is what is
-- untaken and then what is in the lane from its peer. At an awaited end it is what is deferred and
-- then what is in the lane from the party of s. At an end that is over nothing waits. To a Parked
-- end nothing flows
abbrev pub flowing_at : {P Q : Type 0} → WorldAt P Q → (s r : Side P) → (waiting : List Msg) → Seat P → Type 0
flowing_at w s r waiting (held at h) = h.untaken ++ carries_under r.id h.end.conn (bodies (w.lanes h.end.peer at)) ≡ waiting
flowing_at w s r waiting (signalled at to e deferred) = FlowsDeferred r.id (e.conn + 1) deferred (lane_from w (party_of s.seat) to) waiting
flowing_at w s r waiting (given at to e resend deferred) = FlowsDeferred r.id e.conn deferred (lane_from w (party_of s.seat) to) waiting
flowing_at w s r waiting (closed at e) = waiting ≡ []
flowing_at w s r waiting gone = waiting ≡ []
flowing_at w s r waiting (parked at e) = ⊥
flowing_at w s r waiting (claimed at to e) = ⊥

-- the direction from s to r is flowing: what waits for r is here
abbrev pub IsFlowing : {P Q : Type 0} → WorldAt P Q → (s r : Side P) → (waiting : List Msg) → Type 0
IsFlowing w s r waiting = flowing_at w s r waiting r.seat

-- a Signal that reports to s that r has taken k
abbrev pub TellsTaken : {P : Type 0} → EndId → ℕ → BodyAt P → Type 0
TellsTaken s k (Signal to conn party taken) = (to ≡ s) × (taken ≡ k)
TellsTaken s k (Carry to conn number taken msg) = ⊥
TellsTaken s k (Fin to conn number) = ⊥
TellsTaken s k (Claim of) = ⊥
TellsTaken s k (Ack of conn) = ⊥
TellsTaken s k (Give end resend) = ⊥
TellsTaken s k (Open sess) = ⊥

-- what is deferred for an end that is awaited
abbrev pub deferred_of : {P : Type 0} → Seat P → List (BodyAt P)
deferred_of (signalled at to e deferred) = deferred
deferred_of (given at to e resend deferred) = deferred
deferred_of _ = []

-- the end is at a Parked record
abbrev pub IsParked : {P : Type 0} → Seat P → Type 0
IsParked (parked at e) = ⊤
IsParked (claimed at to e) = ⊤
IsParked _ = ⊥

-- the end is in a Give that resends from that number
abbrev pub IsGivenFrom : {P : Type 0} → (number : ℕ) → Seat P → Type 0
IsGivenFrom number (given at to e resend deferred) = resend ≡ Some number
IsGivenFrom number (held at h) = ⊥
IsGivenFrom number (parked at e) = ⊥
IsGivenFrom number (claimed at to e) = ⊥
IsGivenFrom number (signalled at to e deferred) = ⊥
IsGivenFrom number (closed at e) = ⊥
IsGivenFrom number gone = ⊥

-- such a Signal is in a lane or among deferred frames
abbrev pub IsTold : {P Q : Type 0} → WorldAt P Q → (s : Side P) → (taken : ℕ) → Type 0
IsTold {P} w s taken = (b : BodyAt P) × TellsTaken s.id taken b × (Contains (deferred_of s.seat) b ⊎ ((p : ℕ) × (q : ℕ) × Contains (bodies (w.lanes p q)) b))

-- a sign that s must send again from that number on: r is Parked, or a Signal or s's Give says so
abbrev pub HasSign : {P Q : Type 0} → WorldAt P Q → (s r : Side P) → (taken : ℕ) → Type 0
HasSign w s r taken = IsParked r.seat ⊎ IsTold w s taken ⊎ IsGivenFrom taken s.seat

-- the cache of s begins there or before
abbrev pub CanResend : {P : Type 0} → (number : ℕ) → Seat P → Type 0
CanResend number (held at h) = h.end.base ≤ number
CanResend number (parked at e) = e.base ≤ number
CanResend number (claimed at to e) = e.base ≤ number
CanResend number (signalled at to e deferred) = e.base ≤ number
CanResend number (given at to e resend deferred) = e.base ≤ number
CanResend number (closed at e) = e.base ≤ number
CanResend number gone = ⊥

-- s owes r what r hasn't taken: a sign says so, and s still has it
abbrev pub IsOwed : {P Q : Type 0} → WorldAt P Q → (s r : Side P) → (taken : ℕ) → Type 0
IsOwed w s r taken = HasSign w s r taken × CanResend taken s.seat
