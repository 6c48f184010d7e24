-- The sessions that calls open, and the list that the run keeps of them.
use Rattle.std.specs.Prelude.{◌≡◌, ℕ, List, [], ◌∷◌, ◌++◌, map}
use Rattle.sj_seat.specs.declared.ask.Ask.{Ask}
use Rattle.sj_seat.specs.declared.ask.Ask.TheVariants as asks
use Rattle.sj_seat.specs.declared.ask.Outcome.{Outcome}
use Rattle.sj_seat.specs.declared.ask.Outcome.TheVariants as outcomes
use Rattle.sj_seat.specs.declared.wish.OpenedSession.{OpenedSession}
use Rattle.sj_seats.specs.Calling.{protocol_asked}
use Rattle.sj_seat_laws.specs.Calls.{Call, accepts, closes, delegates, requests, sends, takes}

-- the protocol of the session that the call opens, if it opens one
abbrev pub protocol_of : Call → List ℕ
protocol_of (sends e m) = []
protocol_of (delegates c e) = []
protocol_of (takes e) = []
protocol_of (closes e) = []
protocol_of (requests q n) = n ∷ []
protocol_of (accepts q n) = n ∷ []

-- those of all sessions that calls open, in order
abbrev pub protocols_of : List Call → List ℕ
protocols_of [] = []
protocols_of (c ∷ cs) = protocol_of c ++ protocols_of cs

-- the protocols of listed sessions
abbrev pub protocols_in : List OpenedSession → List ℕ
protocols_in sessions = map (λ (s : OpenedSession). s.protocol) sessions

-- a session that was opened is listed, as the protocol that was asked for; nothing else is
abbrev pub Lists : Ask → Outcome → (before after : List OpenedSession) → Type 0
Lists (asks.Open wish) (outcomes.Opened e) before after =
    (s : OpenedSession) × (after ≡ before ++ s ∷ []) × (s.end ≡ e) × (s.protocol ≡ protocol_asked wish)
Lists _ _ before after = after ≡ before
