-- What a party keeps of an end, and what parties send to each other.
use Rattle.std.specs.Prelude.{ℕ, List, [], filter_map, Option, Some, None}
use Rattle.sj_base.specs.declared.EndId.{EndId}
use Rattle.sj_base.specs.declared.Msg.{Msg}

-- a message as it goes, with the hop number of the end that it names; 0 where it names none
pub record SentAt : Type 0 where
  pub msg : Msg
  pub hop : ℕ

-- how an end stands at one of its records. It is in use, with what came and wasn't taken;
-- delegated, with what came since and what wasn't taken; passed on to a party; or closed
pub data StateAt : Type 0 where
  Held : (untaken : List SentAt) → StateAt
  Parked : (waiting : List SentAt) → StateAt
  Passing : (party : ℕ) → StateAt
  Closed : StateAt

-- a record of an end. What is sent on the end goes from here to the party before it. At hop 0 that
-- is the other end's home, and above it the party of the hop before
pub record RecordAt : Type 0 where
  pub behind : ℕ
  pub state : StateAt

-- a frame brings a message to a record of the end that takes it, or back to a record of the end
-- that sent it. Or it asks for what waits at a record, or it opens a session
pub data FrameAt : Type 0 where
  In : (to : EndId) → (hop : ℕ) → (sent : SentAt) → FrameAt
  Out : (of : EndId) → (hop : ℕ) → (sent : SentAt) → FrameAt
  Claim : (of : EndId) → (hop : ℕ) → FrameAt
  Open : (sess : ℕ) → FrameAt

-- a frame with the party to which it goes
pub record Mail : Type 0 where
  pub party : ℕ
  pub frame : FrameAt

-- what is stored at a record
abbrev pub stored : StateAt → List SentAt
stored (Held ms) = ms
stored (Parked ms) = ms
stored (Passing p) = []
stored Closed = []

-- the session of an Open
abbrev pub session_opened : FrameAt → Option ℕ
session_opened (In e h m) = None
session_opened (Out e h m) = None
session_opened (Claim e h) = None
session_opened (Open sess) = Some sess

-- the sessions of the Opens among these, in order
abbrev pub opened_in : List FrameAt → List ℕ
opened_in fs = filter_map session_opened fs
