-- A core world stands for a plain world.
use Rattle.std.specs.Prelude.{◌≡◌, ◌⊎◌, ℕ, ◌<◌, ◌≤◌, true, false, if◌then◌else◌, List, [], ◌∷◌, ◌++◌, Contains, Some}
use Rattle.sj_base.specs.declared.EndId.{EndId}
use Rattle.sj_rules.specs.Record.{EndAt, BodyAt, HeldAt, Held, other_end, offered_end}
use Rattle.sj_rules.specs.Opened.{opener_of, new_held, opened_in, is_open_of}
use Rattle.sj_rules.specs.World.{WorldAt}
use Rattle.sj_rules.specs.Seat.{Seat, held, parked, claimed, signalled, given, closed, gone, Side}
use Rattle.sj_rules.specs.Shown.{Shows, bodies}
use Rattle.sj_rules.specs.PlainSide.{PlainSide, PlainAt, untaken_of}
use Rattle.sj_rules.specs.Counts.{Agrees}
use Rattle.sj_rules.specs.Flowing.{IsFlowing, IsOwed, carries_under}
use Rattle.sj_rules.specs.Numbers.{is_over}
use Rattle.sj_rules.specs.Reading.{is_opening}

-- an end agrees with the plain one, counts, hops and cache, and its cache begins where the other
-- end has taken
pub record EndStands {P : Type 0} (id : EndId) (x y : PlainSide P) (e : EndAt P) : Type 0 where
  pub agrees : Agrees id e y
  pub base : e.base ≤ x.taken

-- one that is gone is over, with nothing untaken, and the other one is closed or gone
pub record GoneStands {P : Type 0} (IsOver : P → Type 0) (x y : PlainSide P) (other : Seat P) : Type 0 where
  pub over : IsOver y.place
  pub nothing_waits : untaken_of x y ≡ []
  pub other_over : is_over other ≡ true

-- by its seat
abbrev pub SeatStands : {P : Type 0} → (IsOver : P → Type 0) → EndId → (x y : PlainSide P) → (other : Seat P) → Seat P → Type 0
SeatStands IsOver id x y other (held at h) = EndStands id x y h.end
SeatStands IsOver id x y other (parked at e) = EndStands id x y e
SeatStands IsOver id x y other (claimed at to e) = EndStands id x y e
SeatStands IsOver id x y other (signalled at to e deferred) = EndStands id x y e
SeatStands IsOver id x y other (given at to e resend deferred) = EndStands id x y e
SeatStands IsOver id x y other (closed at e) = EndStands id x y e
SeatStands IsOver id x y other gone = GoneStands IsOver x y other

-- the place of an end is that of its Expected record, where there is one, and else its own; one
-- that is gone has none
abbrev pub PlaceStands : {P : Type 0} → (awaited plain : P) → Seat P → Type 0
PlaceStands awaited plain (held at h) = h.end.place ≡ plain
PlaceStands awaited plain (parked at e) = e.place ≡ plain
PlaceStands awaited plain (claimed at to e) = awaited ≡ plain
PlaceStands awaited plain (signalled at to e deferred) = awaited ≡ plain
PlaceStands awaited plain (given at to e resend deferred) = awaited ≡ plain
PlaceStands awaited plain (closed at e) = e.place ≡ plain
PlaceStands awaited plain gone = awaited ≡ plain

-- what stands after the Open of the end
abbrev pub behind_open : {P : Type 0} → EndId → List (BodyAt P) → List (BodyAt P)
behind_open e [] = []
behind_open e (b ∷ bs) = if is_open_of e b then bs else behind_open e bs

-- an end in an Open on its way to p, which is seated as the Open will make it. Nothing was sent or
-- taken on it, it was never delegated, and what waits for it is after the Open
pub record OpeningStands {P Q : Type 0} (blank : P) (w : WorldAt P Q) (p : ℕ) (e : EndId) (x y : PlainSide P) (r : Side P) : Type 0 where
  pub seat : r.seat ≡ held p (new_held e blank (opener_of e.sess))
  pub offered : y.offered ≡ true
  pub sent : y.sent ≡ []
  pub taken : y.taken ≡ 0
  pub hops : y.hops ≡ 0
  pub flows : carries_under e 0 (behind_open e (bodies (w.lanes (opener_of e.sess) p))) ≡ untaken_of x y

-- an end that is in no Open
pub record ThereStands {P Q : Type 0} (IsOver : P → Type 0) (w : WorldAt P Q) (e : EndId) (x y : PlainSide P) (s r : Side P) : Type 0 where
  pub shows : Shows w s.seat r
  pub stands : SeatStands IsOver e x y s.seat r.seat
  pub place : y.offered ≡ false → PlaceStands r.place y.place r.seat
  pub flows : IsFlowing w s r (untaken_of x y) ⊎ IsOwed w s r y.taken

-- the programs and counts of requests are the plain ones. What was opened and not accepted is what
-- is offered and then what is in Opens. The end of each session that is offered is Held there. Each
-- end lies where the world shows it and stands for the plain one, and what waits for it flows or is
-- owed
pub record StandsFor {P Q : Type 0} (IsOver : P → Type 0) (blank : P) (w : WorldAt P Q) (plain : PlainAt P Q) : Type 0 where
  pub programs : (p : ℕ) → (w.nodes p).program ≡ plain.programs p
  pub requests : (p : ℕ) → (w.nodes p).requests ≡ plain.requests p
  pub offers : (from p : ℕ) → (w.nodes p).offers from ++ opened_in (bodies (w.lanes from p)) ≡ plain.offers from p
  pub offered_held : (from p sess : ℕ) → Contains ((w.nodes p).offers from) sess → (h : HeldAt P) × ((w.nodes p).main (offered_end sess) ≡ Some (Held h))
  pub sides : EndId → Side P
  pub ids : (e : EndId) → (sides e).id ≡ e
  pub opening : (p : ℕ) (e : EndId) → is_opening w p e ≡ true → OpeningStands blank w p e (plain.sides (other_end e)) (plain.sides e) (sides e)
  pub ends : (e : EndId) → e.side < 2 → ((p : ℕ) → is_opening w p e ≡ false) → ThereStands IsOver w e (plain.sides (other_end e)) (plain.sides e) (sides (other_end e)) (sides e)
