-- What the code calls, as the laws see it, and the rules that may refuse it.
use Rattle.std.specs.Prelude.{ℕ, Bool, true, false}
use Rattle.sj_seat_laws.specs.Calls.{Call, Ends, Openings, accepts, closes, delegates, requests, sends, takes}
use Rattle.sj_seat_laws.specs.Guards.{opened_place}
use Rattle.sj_seat.specs.Rules.{Tests, close_tests, delegate_tests, open_tests, send_tests, take_end_tests, take_tests}
use Rattle.sj_seat.specs.declared.wish.OpenWish.{OpenWish}
use Rattle.sj_seat.specs.declared.wish.OpenWish.TheVariants.{Request, Accept}
use Rattle.sj_seat.specs.declared.wish.Wish.{Wish}
use Rattle.sj_seat.specs.declared.wish.Wish.TheVariants.{Send, Delegate, Take, TakeEnd, Close}

-- the call that it is
abbrev pub wished : Wish → Call
wished (Send e m) = sends e m
wished (Delegate c e) = delegates c e
wished (Take e) = takes e
wished (TakeEnd e) = takes e
wished (Close e) = closes e

-- its rules, in their order, each with whether it applies
abbrev pub tests_of : (texts calls : ℕ) → Ends → Wish → Tests
tests_of texts calls bs (Send e m) = send_tests texts calls bs e m
tests_of texts calls bs (Delegate c e) = delegate_tests calls bs c e
tests_of texts calls bs (Take e) = take_tests calls bs e
tests_of texts calls bs (TakeEnd e) = take_end_tests calls bs e
tests_of texts calls bs (Close e) = close_tests calls bs e

-- it takes a message
abbrev pub is_taking : Wish → Bool
is_taking (Take e) = true
is_taking (TakeEnd e) = true
is_taking _ = false

-- ---- a session that is opened

-- the call that it is
abbrev pub open_wished : OpenWish → Call
open_wished (Request q n) = requests q n
open_wished (Accept q n) = accepts q n

-- its rules, in their order
abbrev pub open_tests_of : (calls : ℕ) → Openings → OpenWish → Tests
open_tests_of calls os wish = open_tests calls (opened_place os (open_wished wish))
