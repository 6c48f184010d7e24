-- Where an end lies, who awaits it, and which numbers, peers and parties it has there.
use Rattle.std.specs.Prelude.{ℕ, ◌+◌, List, Option}
use Rattle.sj_base.specs.declared.EndId.{EndId}
use Rattle.sj_rules.specs.Record.{EndAt, BodyAt, HeldAt}

-- an end, with the party that has it and the party that awaits it
pub data Seat (P : Type 0) : Type 0 where
  held : (at : ℕ) → HeldAt P → Seat P
  -- the session message is untaken
  parked : (at : ℕ) → EndAt P → Seat P
  -- the session message was taken by the other party, whose Claim is in the lane
  claimed : (at to : ℕ) → EndAt P → Seat P
  signalled : (at to : ℕ) → EndAt P → (deferred : List (BodyAt P)) → Seat P
  given : (at to : ℕ) → EndAt P → (resend : Option ℕ) → (deferred : List (BodyAt P)) → Seat P
  closed : (at : ℕ) → EndAt P → Seat P
  gone : Seat P

-- an end with the frames that still come to it: under the number of a Signalled end, and under its
-- coming number
pub record Side (P : Type 0) : Type 0 where
  pub id : EndId
  pub place : P
  pub seat : Seat P
  pub old : List (BodyAt P)
  pub live : List (BodyAt P)

-- the same, part by part
abbrev pub side_of : {P : Type 0} → EndId → P → Seat P → (old live : List (BodyAt P)) → Side P
side_of id place seat old live = record { id = id; place = place; seat = seat; old = old; live = live }

-- the connection number, its coming number, and its peer
abbrev pub conn_of : {P : Type 0} → Seat P → ℕ
conn_of (held at h) = h.end.conn
conn_of (parked at e) = e.conn
conn_of (claimed at to e) = e.conn
conn_of (signalled at to e deferred) = e.conn
conn_of (given at to e resend deferred) = e.conn
conn_of (closed at e) = e.conn
conn_of gone = 0

-- the coming number: one more where the end is Signalled
abbrev pub coming_of : {P : Type 0} → Seat P → ℕ
coming_of (signalled at to e deferred) = e.conn + 1
coming_of (held at h) = h.end.conn
coming_of (parked at e) = e.conn
coming_of (claimed at to e) = e.conn
coming_of (given at to e resend deferred) = e.conn
coming_of (closed at e) = e.conn
coming_of gone = 0

-- the peer
abbrev pub peer_of : {P : Type 0} → Seat P → ℕ
peer_of (held at h) = h.end.peer
peer_of (parked at e) = e.peer
peer_of (claimed at to e) = e.peer
peer_of (signalled at to e deferred) = e.peer
peer_of (given at to e resend deferred) = e.peer
peer_of (closed at e) = e.peer
peer_of gone = 0

-- the party that sends for the end under its own number
abbrev pub sender_of : {P : Type 0} → Seat P → ℕ
sender_of (held at h) = at
sender_of (parked at e) = at
sender_of (claimed at to e) = at
sender_of (signalled at to e deferred) = at
sender_of (given at to e resend deferred) = to
sender_of (closed at e) = at
sender_of gone = 0

-- the party to which frames of its coming number go
abbrev pub taker_of : {P : Type 0} → Seat P → ℕ
taker_of (held at h) = at
taker_of (parked at e) = at
taker_of (claimed at to e) = at
taker_of (signalled at to e deferred) = to
taker_of (given at to e resend deferred) = to
taker_of (closed at e) = at
taker_of gone = 0

-- the party from which those come: the sender of the other end, or the peer where that end is gone
abbrev pub source_for : {P : Type 0} → Seat P → Seat P → ℕ
source_for gone seat = peer_of seat
source_for (held at h) seat = at
source_for (parked at e) seat = at
source_for (claimed at to e) seat = at
source_for (signalled at to e deferred) seat = at
source_for (given at to e resend deferred) seat = to
source_for (closed at e) seat = at
