-- Counts: what the record or the Give of an end has, beside what the plain world knows.
use Rattle.std.specs.Prelude.{◌≡◌, ℕ, ◌≤◌, ◌<◌, false, ⊤, [], length, Some, None, drop}
use Rattle.sj_base.specs.declared.EndId.{EndId}
use Rattle.sj_rules.specs.Record.{EndAt}
use Rattle.sj_rules.specs.Seat.{Seat, held, parked, claimed, signalled, given, closed, gone}
use Rattle.sj_rules.specs.PlainSide.{PlainSide, untaken_of}

-- the end that isn't gone agrees with the plain one
pub record Agrees {P : Type 0} (id : EndId) (e : EndAt P) (x : PlainSide P) : Type 0 where
  pub name : e.id ≡ id
  pub hops : e.hops ≡ x.hops
  pub sent : e.sent ≡ length x.sent
  pub taken : e.taken ≡ x.taken
  pub cache : e.cache ≡ drop e.base x.sent

-- what the record itself has. The place of an offered end is left out, and so is that of an end
-- which an Expected record awaits: there the plain place is that record's. IsOver says which places
-- are empty
abbrev pub SeatFits : {P : Type 0} → (IsOver : P → Type 0) → EndId → (x y : PlainSide P) → Seat P → Type 0
SeatFits IsOver id x y (held at h) = Agrees id h.end y × (y.offered ≡ false → h.end.place ≡ y.place) × (h.end.base ≤ x.taken)
SeatFits IsOver id x y (parked at e) = Agrees id e y × (e.place ≡ y.place) × (e.base ≤ x.taken)
SeatFits IsOver id x y (claimed at to e) = Agrees id e y × (e.base ≤ x.taken)
SeatFits IsOver id x y (signalled at to e deferred) = Agrees id e y × (e.base ≤ x.taken)
SeatFits IsOver id x y (given at to e resend deferred) = Agrees id e y × (e.base ≤ x.taken)
SeatFits IsOver id x y (closed at e) = Agrees id e y × (e.place ≡ y.place) × (e.base ≤ x.taken) × IsOver y.place × (untaken_of x y ≡ [])
SeatFits IsOver id x y gone = IsOver y.place × (untaken_of x y ≡ [])

-- a Give of s resends from what r has taken, and never under the first number
abbrev pub ResendFits : {P : Type 0} → (taken : ℕ) → Seat P → Type 0
ResendFits taken (given at to e None deferred) = ⊤
ResendFits taken (given at to e (Some k) deferred) = (k ≡ taken) × (0 < e.conn)
ResendFits taken (held at h) = ⊤
ResendFits taken (parked at e) = ⊤
ResendFits taken (claimed at to e) = ⊤
ResendFits taken (signalled at to e deferred) = ⊤
ResendFits taken (closed at e) = ⊤
ResendFits taken gone = ⊤
