-- Frames: what comes from s to r by their seats and their pace. x and y are what the plain world
-- knows of s and r.
use Rattle.std.specs.Prelude.{◌≡◌, ℕ, ◌+◌, false, ⊤, List, [], ◌∷◌, ◌++◌, Option, Some, None}
use Rattle.sj_base.specs.declared.EndId.{EndId}
use Rattle.sj_rules.specs.Record.{EndAt, BodyAt, Signal, Ack}
use Rattle.sj_rules.specs.Seat.{Seat, held, parked, claimed, signalled, given, closed, gone, sender_of}
use Rattle.sj_rules.specs.PlainSide.{PlainSide, untaken_of}
use Rattle.sj_rules.specs.Numbers.{Cause, by_ack, by_signal, Pace, level, ahead, behind, is_over}
use Rattle.sj_rules.specs.Streams.{signal_of, mark_for, ComesWhole, ComesLoose, ComesToHeld}

-- nothing has come to r
abbrev pub IsBare : {P : Type 0} → Seat P → Type 0
IsBare (held at h) = (h.untaken ≡ []) × (h.fin ≡ false)
IsBare (parked at e) = ⊤
IsBare (claimed at to e) = ⊤
IsBare (signalled at to e deferred) = deferred ≡ []
IsBare (given at to e resend deferred) = deferred ≡ []
IsBare (closed at e) = ⊤
IsBare gone = ⊤

-- where s is on r's coming number. The Signal that explains why s is ahead raises what r will know
abbrev pub comes_low : {P : Type 0} → Pace → EndAt P → PlainSide P → ℕ
comes_low (ahead by_signal) e x = x.taken
comes_low (ahead by_ack) e x = e.base
comes_low level e x = e.base
comes_low (behind c) e x = e.base

-- what comes to r where s sends for it. To a Held r it comes whole, after what is untaken; to a
-- Parked one loose; to one that is awaited whole, after what is deferred. To a Closed one the Fin
-- alone comes
abbrev pub ComesLive : {P : Type 0} → Pace → EndId → (x y : PlainSide P) → (s r : Seat P) → (live : List (BodyAt P)) → Type 0
ComesLive pace to x y s (held at h) live = ComesToHeld to h (untaken_of x y) y.taken x.taken (is_over s) (mark_for to h.end.conn x s) live
ComesLive pace to x y s (parked at e) live = ComesLoose to e.conn (is_over s) (signal_of to e.conn x.taken s) live
ComesLive pace to x y s (claimed at t e) live = ComesLoose to e.conn (is_over s) (signal_of to e.conn x.taken s) live
ComesLive pace to x y s (signalled at t e deferred) live = ComesWhole to (e.conn + 1) y.taken (comes_low pace e x) x.taken (mark_for to (e.conn + 1) x s) (untaken_of x y) (deferred ++ live)
ComesLive pace to x y s (given at t e resend deferred) live = ComesWhole to e.conn y.taken e.base x.taken (mark_for to e.conn x s) (untaken_of x y) (deferred ++ live)
ComesLive pace to x y s (closed at e) live = live ≡ mark_for to e.conn x s
ComesLive pace to x y s gone live = live ≡ []

-- where s isn't there yet: what was untaken when s was Signalled, or nothing
abbrev pub AwaitsFrom : {P : Type 0} → Cause → (x y : PlainSide P) → Seat P → Type 0
AwaitsFrom by_ack x y (held at h) = (h.untaken ≡ untaken_of x y) × (h.fin ≡ false)
AwaitsFrom by_signal x y (held at h) = (h.untaken ≡ []) × (h.fin ≡ false)
AwaitsFrom c x y (parked at e) = ⊤
AwaitsFrom c x y (claimed at to e) = ⊤
AwaitsFrom c x y (signalled at to e deferred) = deferred ≡ []
AwaitsFrom by_ack x y (given at to e resend deferred) = ⊥
AwaitsFrom by_signal x y (given at to e resend deferred) = deferred ≡ []
AwaitsFrom c x y (closed at e) = ⊤
AwaitsFrom c x y gone = ⊥

-- nothing is in the lane to a party that awaits the end
abbrev pub IsAllDeferred : {P : Type 0} → Seat P → (live : List (BodyAt P)) → Type 0
IsAllDeferred (signalled at to e deferred) live = live ≡ []
IsAllDeferred (given at to e resend deferred) live = live ≡ []
IsAllDeferred (held at h) live = ⊤
IsAllDeferred (parked at e) live = ⊤
IsAllDeferred (claimed at to e) live = ⊤
IsAllDeferred (closed at e) live = ⊤
IsAllDeferred gone live = ⊤

-- what comes from an end in a Give: with a resend nothing at all
abbrev pub ComesFromGive : {P : Type 0} → Pace → EndId → (x y : PlainSide P) → (s r : Seat P) → (resend : Option ℕ) → (live : List (BodyAt P)) → Type 0
ComesFromGive pace to x y s r None live = IsAllDeferred r live × ComesLive pace to x y s r live
ComesFromGive pace to x y s r (Some k) live = (live ≡ []) × IsBare r

-- the same, where s may be in a Give
abbrev pub ComesBy : {P : Type 0} → Pace → EndId → (x y : PlainSide P) → (s r : Seat P) → (live : List (BodyAt P)) → Type 0
ComesBy pace to x y (given at t e resend deferred) r live = ComesFromGive pace to x y (given at t e resend deferred) r resend live
ComesBy pace to x y (held at h) r live = ComesLive pace to x y (held at h) r live
ComesBy pace to x y (parked at e) r live = ComesLive pace to x y (parked at e) r live
ComesBy pace to x y (claimed at t e) r live = ComesLive pace to x y (claimed at t e) r live
ComesBy pace to x y (signalled at t e deferred) r live = ComesLive pace to x y (signalled at t e deferred) r live
ComesBy pace to x y (closed at e) r live = ComesLive pace to x y (closed at e) r live
ComesBy pace to x y gone r live = ComesLive pace to x y gone r live

-- under r's coming number
abbrev pub Comes : {P : Type 0} → Pace → EndId → (x y : PlainSide P) → (s r : Seat P) → (live : List (BodyAt P)) → Type 0
Comes (behind c) to x y s r live = (live ≡ []) × AwaitsFrom c x y r
Comes level to x y s (signalled at t e deferred) live = (live ≡ []) × (deferred ≡ [])
Comes level to x y s r live = ComesBy level to x y s r live
Comes (ahead c) to x y s r live = ComesBy (ahead c) to x y s r live

-- under the number of a Signalled end r: what is dropped, and then what shows where s stands
abbrev pub explanation : {P : Type 0} → Pace → EndId → (conn : ℕ) → PlainSide P → Seat P → List (BodyAt P)
explanation level to conn x s = signal_of to conn x.taken s
explanation (ahead by_ack) to conn x s = Ack to conn ∷ []
explanation (ahead by_signal) to conn x s = Signal to conn (sender_of s) x.taken ∷ []
explanation (behind c) to conn x s = []

-- under the number of a Signalled end r: nothing where s lags, else frames to drop and then what
-- explains. At all other ends nothing is old
abbrev pub AreOld : {P : Type 0} → Pace → EndId → PlainSide P → (s r : Seat P) → (old : List (BodyAt P)) → Type 0
AreOld (behind c) to x s (signalled at t e deferred) old = old ≡ []
AreOld pace to x s (signalled at t e deferred) old = ComesLoose to e.conn (is_over s) (explanation pace to e.conn x s) old
AreOld pace to x s _ old = old ≡ []
