-- Numbers: how the connection numbers of a session's two ends s and r go together.
use Rattle.std.specs.Prelude.{◌≡◌, ℕ, ◌+◌, ◌≤◌, Bool, true, false, ⊤}
use Rattle.sj_rules.specs.Seat.{Seat, held, parked, claimed, signalled, given, closed, gone, conn_of, peer_of, sender_of}

-- why one end's number is ahead of the other's: that one still has an Ack to get, or a Signal
pub data Cause : Type 0 where
  by_ack : Cause
  by_signal : Cause

-- s and r have one number; s is ahead of r by one; s lags r by one
pub data Pace : Type 0 where
  level : Pace
  ahead : Cause → Pace
  behind : Cause → Pace

-- the same, seen from r
abbrev pub turned : Pace → Pace
turned level = level
turned (ahead c) = behind c
turned (behind c) = ahead c

-- the end is Closed or gone
abbrev pub is_over : {P : Type 0} → Seat P → Bool
is_over (closed at e) = true
is_over gone = true
is_over (held at h) = false
is_over (parked at e) = false
is_over (claimed at to e) = false
is_over (signalled at to e deferred) = false
is_over (given at to e resend deferred) = false

-- the end is Signalled to that party
abbrev pub IsSignalledTo : {P : Type 0} → (party : ℕ) → Seat P → Type 0
IsSignalledTo party (signalled at to e deferred) = party ≡ to
IsSignalledTo party _ = ⊥

-- the end is in no Give
abbrev pub IsNotGiven : {P : Type 0} → Seat P → Type 0
IsNotGiven (given at to e resend deferred) = ⊥
IsNotGiven _ = ⊤

-- s is ahead of r by one, its peer is the party to which r is Signalled, and the cause stands
abbrev pub LeadsBy : {P : Type 0} → Cause → (s r : Seat P) → Type 0
LeadsBy by_ack s r = (conn_of s ≡ conn_of r + 1) × IsSignalledTo (peer_of s) r × (peer_of r ≡ sender_of s) × IsNotGiven s
LeadsBy by_signal s r = (conn_of s ≡ conn_of r + 1) × IsSignalledTo (peer_of s) r

-- an end that is gone lies beside one that is over; ends at one number are each other's peer. Else
-- the one that lags is Signalled, and the one ahead has the new party as its peer
abbrev pub NumbersFit : {P : Type 0} → Pace → (s r : Seat P) → Type 0
NumbersFit pace gone r = (pace ≡ level) × (is_over r ≡ true)
NumbersFit pace s gone = (pace ≡ level) × (is_over s ≡ true)
NumbersFit level s r = (conn_of s ≡ conn_of r) × (peer_of s ≡ sender_of r) × (peer_of r ≡ sender_of s)
NumbersFit (ahead c) s r = LeadsBy c s r
NumbersFit (behind c) s r = LeadsBy c r s

-- a handover that isn't done counts, so that numbers stay within the hops
abbrev pub pending : {P : Type 0} → Seat P → ℕ
pending (parked at e) = 1
pending (claimed at to e) = 1
pending (signalled at to e deferred) = 1
pending (held at h) = 0
pending (given at to e resend deferred) = 0
pending (closed at e) = 0
pending gone = 0

-- connection numbers, with the handovers that aren't done, are within the handovers of both ends
abbrev pub IsWithinHops : {P : Type 0} → Pace → (hops : ℕ) → (s r : Seat P) → Type 0
IsWithinHops level hops s r = (conn_of s + pending s + pending r ≤ hops) × (conn_of r + pending s + pending r ≤ hops)
IsWithinHops (ahead c) hops s r = conn_of s + pending s ≤ hops
IsWithinHops (behind c) hops s r = conn_of r + pending r ≤ hops
