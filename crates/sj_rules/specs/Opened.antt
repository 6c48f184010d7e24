-- Sessions that are opened at run time: their numbers, their two ends, and an end before any
-- message.
use Rattle.std.specs.Prelude.{ℕ, ◌-◌, ◌/◌, min, Bool, true, false, ◌||◌, not, ◌==◌, nat_le, nat_lt, ◌&&◌, List, [], ◌∷◌, filter, filter_map, Option, Some, None}
use Rattle.sj_base.specs.declared.EndId.{EndId}
pub use Rattle.sj_semantics.specs.Requests.{opened_number}
use Rattle.sj_rules.specs.Limits.{limit_of_requests, first_opened}
use Rattle.sj_rules.specs.Record.{EndAt, BodyAt, Carry, Fin, Claim, Signal, Ack, Give, Open, HeldAt, is_same_end, offered_end}

-- the party that opens the session
abbrev pub opener_of : (sess : ℕ) → ℕ
opener_of s = (s - first_opened) / limit_of_requests

-- the session is one of those that the party can open
abbrev pub is_opened_by : (party sess : ℕ) → Bool
is_opened_by p s = nat_le first_opened s && (opener_of s == p)

-- and so one of those that some of so many parties can open
abbrev pub is_openable : (parties sess : ℕ) → Bool
is_openable parties s = nat_le first_opened s && nat_lt s (opened_number parties 0)

-- an end of a new session: under number 0, with that peer, and nothing sent or taken
abbrev pub new_end : {P : Type 0} → EndId → P → (peer : ℕ) → EndAt P
new_end id place peer = record { id = id; place = place; conn = 0; peer = peer; sent = 0; taken = 0; base = 0; cache = []; hops = 0 }

-- nothing came
abbrev pub new_held : {P : Type 0} → EndId → P → (peer : ℕ) → HeldAt P
new_held id place peer = record { end = new_end id place peer; untaken = []; fin = false }

-- the smallest of these numbers
abbrev pub smallest_from : ℕ → List ℕ → ℕ
smallest_from n [] = n
smallest_from n (m ∷ ms) = min n (smallest_from m ms)

-- where there is one
abbrev pub smallest : List ℕ → Option ℕ
smallest [] = None
smallest (n ∷ ns) = Some (smallest_from n ns)

-- all but that number
abbrev pub without : ℕ → List ℕ → List ℕ
without n ns = filter (λ m. not (m == n)) ns

-- the body is an Open
abbrev pub is_open : {P : Type 0} → BodyAt P → Bool
is_open (Open sess) = true
is_open (Carry to conn number taken msg) = false
is_open (Fin to conn number) = false
is_open (Claim of) = false
is_open (Signal to conn party taken) = false
is_open (Ack of conn) = false
is_open (Give e resend) = false

-- the session of an Open
abbrev pub session_opened : {P : Type 0} → BodyAt P → Option ℕ
session_opened (Open sess) = Some sess
session_opened (Carry to conn number taken msg) = None
session_opened (Fin to conn number) = None
session_opened (Claim of) = None
session_opened (Signal to conn party taken) = None
session_opened (Ack of conn) = None
session_opened (Give e resend) = None

-- of all of them, in order
abbrev pub opened_in : {P : Type 0} → List (BodyAt P) → List ℕ
opened_in bs = filter_map session_opened bs

-- the body is the Open of that end
abbrev pub is_open_of : {P : Type 0} → EndId → BodyAt P → Bool
is_open_of e (Open sess) = is_same_end e (offered_end sess)
is_open_of e (Carry to conn number taken msg) = false
is_open_of e (Fin to conn number) = false
is_open_of e (Claim of) = false
is_open_of e (Signal to conn party taken) = false
is_open_of e (Ack of conn) = false
is_open_of e (Give end resend) = false

-- an Open of the end is among these
abbrev pub opens : {P : Type 0} → EndId → List (BodyAt P) → Bool
opens e [] = false
opens e (b ∷ bs) = is_open_of e b || opens e bs
