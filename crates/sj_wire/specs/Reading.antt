-- The fields of frames, read from the start of bytes. `Spelling` has the same
-- lines from values to bytes.
use Rattle.std.specs.Prelude.{ℕ, zero, suc, ◌-◌, min, Bool, ◌==◌, if◌then◌else◌, nat_lt, List, [], ◌∷◌, length, drop, Option, Some, None}
use Rattle.std.specs.Int.{w64, cast_signed}
use Rattle.byteorder.specs.Endian.{big_number}
use Rattle.sj_base.specs.declared.EndId.{EndId}
use Rattle.sj_base.specs.declared.Msg.{Msg}
use Rattle.sj_base.specs.declared.Msg.TheVariants as msgs
use Rattle.sj_rules.specs.Frames.{FrameAt}
use Rattle.sj_rules.specs.Record.{EndAt, BodyAt, Carry, Fin, Claim, Signal, Ack, Give, Open}
use Rattle.sj_table.specs.declared.table.Spot.{Spot}
use Rattle.sj_wire.specs.Tags.{int_tag, bool_tag, text_tag, label_tag, more_tag, sess_tag}
use Rattle.sj_wire.specs.Limits.{last_clock, nowhere, limit_of_conns, limit_of_messages, limit_of_hops, most_cached}
use Rattle.sj_wire.specs.declared.kind.Kind.{Kind}
use Rattle.sj_wire.specs.declared.kind.Kind.TheVariants as kinds

infixl 10 ◌>>=◌
abbrev pub ◌>>=◌ : {A B : Type 0} → Option A → (A → Option B) → Option B
(Some x) >>= f = f x
None >>= f = None

-- a field is a value and the bytes after it, or none where the bytes are no such field
abbrev pub Field : Type 0 → Type 0
Field A = Option (A × List ℕ)

-- a field made of another
abbrev pub made : {A B : Type 0} → (A → B) → Field A → Field B
made f None = None
made f (Some x) = Some (f x.0, x.1)

-- a number in so many bytes, the highest first
unfoldable pub number_at : ℕ → List ℕ → Field ℕ
number_at n bytes = if nat_lt (length bytes) n then None else Some (big_number n bytes, drop n bytes)

-- the same, at most so large
unfoldable pub limited_at : ℕ → (limit : ℕ) → List ℕ → Field ℕ
limited_at n limit bytes = do
  x ← number_at n bytes
  if nat_lt limit x.0 then None else Some x

-- a byte 1 for yes, 0 for no
unfoldable pub flag_at : List ℕ → Field Bool
flag_at bytes = do
  x ← limited_at 1 1 bytes
  Some (x.0 == 1, x.1)

-- session and side
unfoldable pub end_id_at : List ℕ → Field EndId
end_id_at bytes = do
  sess ← number_at 4 bytes
  side ← limited_at 1 1 sess.1
  Some (record { sess = sess.0; side = side.0 }, side.1)

-- the end of a session message, and its keeper
unfoldable pub sess_at : List ℕ → Field Msg
sess_at bytes = do
  e ← end_id_at bytes
  keeper ← number_at 2 e.1
  Some (msgs.Sess e.0.sess e.0.side keeper.0, keeper.1)

-- the value of a message with that tag
unfoldable pub value_at : ℕ → List ℕ → Field Msg
value_at tag bytes =
    if tag == int_tag then made (λ n. msgs.Int (cast_signed w64 n)) (number_at 8 bytes)
    else if tag == bool_tag then made msgs.Bool (flag_at bytes)
    else if tag == text_tag then made msgs.Text (number_at 4 bytes)
    else if tag == label_tag then made msgs.Label (number_at 2 bytes)
    else if tag == more_tag then made msgs.More (flag_at bytes)
    else if tag == sess_tag then sess_at bytes
    else None

-- a tag, and the value
unfoldable pub message_at : List ℕ → Field Msg
message_at bytes = do
  tag ← number_at 1 bytes
  value_at tag.0 tag.1

-- so many messages
unfoldable pub messages_at : ℕ → List ℕ → Field (List Msg)
messages_at zero bytes = Some ([], bytes)
messages_at (suc n) bytes = do
  first ← message_at bytes
  others ← messages_at n first.1
  Some (first.0 ∷ others.0, others.1)

-- a flag, and the number from which the cache goes again: from the base to the sent count
unfoldable pub resend_at : (base sent : ℕ) → List ℕ → Field (Option ℕ)
resend_at base sent bytes = do
  again ← flag_at bytes
  if again.0 then made Some (from_at again.1) else Some (None, again.1)
  where
    from_at : List ℕ → Field ℕ
    from_at bytes = do
      r ← limited_at 4 sent bytes
      if nat_lt r.0 base then None else Some r

-- the fields of a body of each kind, for that end
unfoldable pub carry_at : EndId → List ℕ → Field (BodyAt Spot)
carry_at e bytes = do
  conn ← limited_at 4 limit_of_conns bytes
  n ← limited_at 4 limit_of_messages conn.1
  taken ← limited_at 4 limit_of_messages n.1
  msg ← message_at taken.1
  Some (Carry e conn.0 n.0 taken.0 msg.0, msg.1)

unfoldable pub fin_at : EndId → List ℕ → Field (BodyAt Spot)
fin_at e bytes = do
  conn ← limited_at 4 limit_of_conns bytes
  n ← limited_at 4 limit_of_messages conn.1
  Some (Fin e conn.0 n.0, n.1)

unfoldable pub signal_at : EndId → List ℕ → Field (BodyAt Spot)
signal_at e bytes = do
  conn ← limited_at 4 limit_of_conns bytes
  party ← number_at 2 conn.1
  taken ← limited_at 4 limit_of_messages party.1
  Some (Signal e conn.0 party.0 taken.0, taken.1)

unfoldable pub ack_at : EndId → List ℕ → Field (BodyAt Spot)
ack_at e bytes = do
  conn ← limited_at 4 limit_of_conns bytes
  Some (Ack e conn.0, conn.1)

-- the numbers of an end of that name, which has nothing cached yet
unfoldable pub counts_at : EndId → List ℕ → Field (EndAt Spot)
counts_at e bytes = do
  conn ← limited_at 4 limit_of_conns bytes
  peer ← number_at 2 conn.1
  sent ← limited_at 4 limit_of_messages peer.1
  taken ← limited_at 4 limit_of_messages sent.1
  hops ← limited_at 1 limit_of_hops taken.1
  Some (record { id = e; place = nowhere; conn = conn.0; peer = peer.0; sent = sent.0; taken = taken.0; base = sent.0; cache = []; hops = hops.0 }, hops.1)

unfoldable pub give_at : EndId → List ℕ → Field (BodyAt Spot)
give_at e bytes = do
  end ← counts_at e bytes
  count ← limited_at 4 (min end.0.sent most_cached) end.1
  cache ← messages_at count.0 count.1
  r ← resend_at (end.0.sent - count.0) end.0.sent cache.1
  Some (Give (record end.0 { base = end.0.sent - count.0; cache = cache.0 }) r.0, r.1)

-- it has none, and is for side 1
unfoldable pub open_at : EndId → List ℕ → Field (BodyAt Spot)
open_at e bytes = if e.side == 1 then Some (Open e.sess, bytes) else None

-- the fields of a body of that kind
unfoldable pub body_at : Kind → EndId → List ℕ → Field (BodyAt Spot)
body_at kinds.Carry e bytes = carry_at e bytes
body_at kinds.Fin e bytes = fin_at e bytes
body_at kinds.Claim e bytes = Some (Claim e, bytes)
body_at kinds.Signal e bytes = signal_at e bytes
body_at kinds.Ack e bytes = ack_at e bytes
body_at kinds.Give e bytes = give_at e bytes
body_at kinds.Open e bytes = open_at e bytes

-- what stands after the kind of a frame, all of it
unfoldable pub frame_at : Kind → List ℕ → Option (FrameAt Spot)
frame_at kind bytes = do
  clock ← limited_at 8 last_clock bytes
  e ← end_id_at clock.1
  b ← body_at kind e.0 e.1
  if length b.1 == 0 then Some (record { clock = clock.0; body = b.0 }) else None
