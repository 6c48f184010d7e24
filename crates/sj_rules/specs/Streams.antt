-- Frames: lists of frames that go to one end, whole, or to be dropped.
use Rattle.std.specs.Prelude.{◌≡◌, ◌⊎◌, ℕ, ◌+◌, ◌≤◌, Bool, true, false, ⊤, List, [], ◌∷◌, ◌++◌, length}
use Rattle.sj_base.specs.declared.EndId.{EndId}
use Rattle.sj_base.specs.declared.Msg.{Msg}
use Rattle.sj_rules.specs.Record.{BodyAt, Carry, Fin, Claim, Signal, Ack, Give, Open, HeldAt}
use Rattle.sj_rules.specs.Seat.{Seat, held, parked, claimed, signalled, given, closed, gone}
use Rattle.sj_rules.specs.PlainSide.{PlainSide}
use Rattle.sj_rules.specs.Numbers.{is_over}

-- the Carries of these messages, the first with that number, whose reported counts rise from low up
-- to high
abbrev pub AreCarries : {P : Type 0} → EndId → (conn number low high : ℕ) → List Msg → List (BodyAt P) → Type 0
AreCarries to conn number low high [] [] = low ≤ high
AreCarries to conn number low high (m ∷ ms) (b ∷ bs) =
    (told : ℕ) × (low ≤ told) × (b ≡ Carry to conn number told m) × AreCarries to conn (number + 1) told high ms bs
AreCarries to conn number low high [] (b ∷ bs) = ⊥
AreCarries to conn number low high (m ∷ ms) [] = ⊥

-- frames that will be dropped: Carries, and at most one Fin, as the last
abbrev pub AreDropped : {P : Type 0} → EndId → (conn : ℕ) → (is_over : Bool) → List (BodyAt P) → Type 0
AreDropped to conn is_over [] = ⊤
AreDropped to conn is_over (Carry d c number told msg ∷ bs) = (d ≡ to) × (c ≡ conn) × AreDropped to conn is_over bs
AreDropped to conn is_over (Fin d c number ∷ bs) = (d ≡ to) × (c ≡ conn) × (is_over ≡ true) × (bs ≡ [])
AreDropped to conn is_over (Claim of ∷ bs) = ⊥
AreDropped to conn is_over (Signal d c party taken ∷ bs) = ⊥
AreDropped to conn is_over (Ack of c ∷ bs) = ⊥
AreDropped to conn is_over (Give e resend ∷ bs) = ⊥
AreDropped to conn is_over (Open sess ∷ bs) = ⊥

-- the Signal of a Signalled end s for r
abbrev pub signal_of : {P : Type 0} → EndId → (conn taken : ℕ) → Seat P → List (BodyAt P)
signal_of r conn taken (signalled at to e deferred) = Signal r conn to taken ∷ []
signal_of r conn taken (held at h) = []
signal_of r conn taken (parked at e) = []
signal_of r conn taken (claimed at to e) = []
signal_of r conn taken (given at to e resend deferred) = []
signal_of r conn taken (closed at e) = []
signal_of r conn taken gone = []

-- the last frame from s: its Fin where it is over, its Signal where it is Signalled
abbrev pub mark_of : {P : Type 0} → EndId → (conn sent taken : ℕ) → Seat P → List (BodyAt P)
mark_of r conn sent taken (closed at e) = Fin r conn sent ∷ []
mark_of r conn sent taken gone = Fin r conn sent ∷ []
mark_of r conn sent taken (signalled at to e deferred) = Signal r conn to taken ∷ []
mark_of r conn sent taken (held at h) = []
mark_of r conn sent taken (parked at e) = []
mark_of r conn sent taken (claimed at to e) = []
mark_of r conn sent taken (given at to e resend deferred) = []

-- the mark of s for r under that number
abbrev pub mark_for : {P : Type 0} → EndId → (conn : ℕ) → PlainSide P → Seat P → List (BodyAt P)
mark_for to conn x s = mark_of to conn (length x.sent) x.taken s

-- these messages come, the first with that number, with reported counts up to high, and then the
-- mark
pub record ComesWhole {P : Type 0} (to : EndId) (conn number low high : ℕ) (mark : List (BodyAt P)) (msgs : List Msg) (frames : List (BodyAt P)) : Type 0 where
  pub carries : List (BodyAt P)
  pub split : frames ≡ carries ++ mark
  pub are : AreCarries to conn number low high msgs carries

-- dropped frames, and then these
pub record ComesLoose {P : Type 0} (to : EndId) (conn : ℕ) (is_over : Bool) (mark frames : List (BodyAt P)) : Type 0 where
  pub dropped : List (BodyAt P)
  pub split : frames ≡ dropped ++ mark
  pub are : AreDropped to conn is_over dropped

-- what is untaken at a Held end is a prefix of what waits for it, and the rest comes, or the Fin
-- was noted
pub record ComesToHeld {P : Type 0} (to : EndId) (h : HeldAt P) (waiting : List Msg) (taken high : ℕ) (over : Bool) (mark live : List (BodyAt P)) : Type 0 where
  pub rest : List Msg
  pub all : waiting ≡ h.untaken ++ rest
  pub comes : (h.fin ≡ false) × ComesWhole to h.end.conn (taken + length h.untaken) h.end.base high mark rest live
      ⊎ (h.fin ≡ true) × (over ≡ true) × (live ≡ []) × (rest ≡ [])
