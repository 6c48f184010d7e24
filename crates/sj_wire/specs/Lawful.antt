-- Which frames have a spelling that is read.
use Rattle.std.specs.Prelude.{ℕ, ◌≡◌, ◌+◌, ◌<◌, ◌≤◌, ◌^◌, ⊤, length, FitsSigned, IfSome}
use Rattle.std.specs.Int.{w64}
use Rattle.std.specs.List.{AllByRecursion}
use Rattle.sj_base.specs.declared.Msg.{Msg}
use Rattle.sj_base.specs.declared.Msg.TheVariants as msgs
use Rattle.sj_rules.specs.Frames.{FrameAt}
use Rattle.sj_rules.specs.Record.{BodyAt, Carry, Fin, Claim, Signal, Ack, Give, Open}
use Rattle.sj_table.specs.declared.table.Spot.{Spot}
use Rattle.sj_wire.specs.Kinds.{end_in}
use Rattle.sj_wire.specs.Limits.{last_clock, limit_of_conns, limit_of_messages, limit_of_hops, most_cached, nowhere}

-- a message that names an end names one of the two of its session
abbrev pub HasSide : Msg → Type 0
HasSide (msgs.Int i) = ⊤
HasSide (msgs.Bool b) = ⊤
HasSide (msgs.Text t) = ⊤
HasSide (msgs.Label l) = ⊤
HasSide (msgs.More b) = ⊤
HasSide (msgs.Sess sess side keeper) = side ≤ 1

-- the numbers of a body are within their limits, and a cache goes again from its
-- base on or a later number
abbrev pub IsWithin : {P : Type 0} → BodyAt P → Type 0
IsWithin (Carry e conn n taken msg) = (conn ≤ limit_of_conns) × (n ≤ limit_of_messages) × (taken ≤ limit_of_messages) × HasSide msg
IsWithin (Fin e conn n) = (conn ≤ limit_of_conns) × (n ≤ limit_of_messages)
IsWithin (Claim e) = ⊤
IsWithin (Signal e conn party taken) = (conn ≤ limit_of_conns) × (taken ≤ limit_of_messages)
IsWithin (Ack e conn) = conn ≤ limit_of_conns
IsWithin (Give e r) =
    (e.conn ≤ limit_of_conns) × (e.sent ≤ limit_of_messages) × (e.taken ≤ limit_of_messages) × (e.hops ≤ limit_of_hops)
    × AllByRecursion HasSide e.cache × IfSome r (λ n. (e.base ≤ n) × (n ≤ e.sent))
IsWithin (Open sess) = ⊤

-- the frame keeps the limits of the wire
abbrev pub IsLawful : {P : Type 0} → FrameAt P → Type 0
IsLawful f = (f.clock ≤ last_clock) × ((end_in f.body).side ≤ 1) × IsWithin f.body

-- how many messages of a cache the body has
abbrev pub cached_in : {P : Type 0} → BodyAt P → ℕ
cached_in (Carry e conn n taken msg) = 0
cached_in (Fin e conn n) = 0
cached_in (Claim e) = 0
cached_in (Signal e conn party taken) = 0
cached_in (Ack e conn) = 0
cached_in (Give e r) = length e.cache
cached_in (Open sess) = 0

-- what the type of a message gives
abbrev pub IsTypedMessage : Msg → Type 0
IsTypedMessage (msgs.Int i) = FitsSigned w64 i
IsTypedMessage (msgs.Bool b) = ⊤
IsTypedMessage (msgs.Text t) = t < 2 ^ 32
IsTypedMessage (msgs.Label l) = l < 2 ^ 16
IsTypedMessage (msgs.More b) = ⊤
IsTypedMessage (msgs.Sess sess side keeper) = (sess < 2 ^ 32) × (keeper < 2 ^ 16)

-- what the type of a body gives
abbrev pub IsTypedBody : {P : Type 0} → BodyAt P → Type 0
IsTypedBody (Carry e conn n taken msg) = IsTypedMessage msg
IsTypedBody (Fin e conn n) = ⊤
IsTypedBody (Claim e) = ⊤
IsTypedBody (Signal e conn party taken) = party < 2 ^ 16
IsTypedBody (Ack e conn) = ⊤
IsTypedBody (Give e r) = (e.peer < 2 ^ 16) × (e.base + length e.cache ≡ e.sent) × AllByRecursion IsTypedMessage e.cache
IsTypedBody (Open sess) = ⊤

-- the same body, with no place
abbrev pub without_place : {P : Type 0} → BodyAt P → BodyAt Spot
without_place (Carry e conn n taken msg) = Carry e conn n taken msg
without_place (Fin e conn n) = Fin e conn n
without_place (Claim e) = Claim e
without_place (Signal e conn party taken) = Signal e conn party taken
without_place (Ack e conn) = Ack e conn
without_place (Give e r) = Give (record { id = e.id; place = nowhere; conn = e.conn; peer = e.peer; sent = e.sent; taken = e.taken; base = e.base; cache = e.cache; hops = e.hops }) r
without_place (Open sess) = Open sess

-- what is read of a frame: all but the place
abbrev pub on_wire : {P : Type 0} → FrameAt P → FrameAt Spot
on_wire f = record { clock = f.clock; body = without_place f.body }

-- a frame that goes over the wire: it keeps the limits, and its cache isn't too long
pub record IsSpelt {P : Type 0} (f : FrameAt P) : Type 0 where
  pub lawful : IsLawful f
  pub short : cached_in f.body ≤ most_cached
  pub session : (end_in f.body).sess < 2 ^ 32
  pub typed : IsTypedBody f.body
