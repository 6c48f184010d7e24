-- How a frame is spelt, byte for byte. `Reading` has the same lines from bytes to frames.
use Rattle.std.specs.Prelude.{ℕ, Bool, true, false, List, [], ◌++◌, length, Option, Some, None}
use Rattle.std.specs.Int.{w64, cast_unsigned}
use Rattle.std.specs.List.{flat_map}
use Rattle.byteorder.specs.Endian.{big_bytes}
use Rattle.sj_base.specs.declared.EndId.{EndId}
use Rattle.sj_base.specs.declared.Msg.{Msg}
use Rattle.sj_base.specs.declared.Msg.TheVariants as msgs
use Rattle.sj_rules.specs.Frames.{FrameAt}
use Rattle.sj_rules.specs.Record.{EndAt, BodyAt, Carry, Fin, Claim, Signal, Ack, Give, Open}
use Rattle.sj_wire.specs.Tags.{int_tag, bool_tag, text_tag, label_tag, more_tag, sess_tag}
use Rattle.sj_wire.specs.Kinds.{code, end_in, kind_of, version_of}

-- a number in so many bytes, the highest first
unfoldable pub number : ℕ → ℕ → List ℕ
number n x = big_bytes n x

-- a byte 1 for yes, 0 for no
unfoldable pub flag : Bool → List ℕ
flag true = number 1 1
flag false = number 1 0

-- session and side
unfoldable pub end_id : EndId → List ℕ
end_id e = number 4 e.sess ++ number 1 e.side

-- a tag, and the value
unfoldable pub message : Msg → List ℕ
message (msgs.Int i) = number 1 int_tag ++ number 8 (cast_unsigned w64 i)
message (msgs.Bool b) = number 1 bool_tag ++ flag b
message (msgs.Text t) = number 1 text_tag ++ number 4 t
message (msgs.Label l) = number 1 label_tag ++ number 2 l
message (msgs.More b) = number 1 more_tag ++ flag b
message (msgs.Sess sess side keeper) = number 1 sess_tag ++ (end_id (record { sess = sess; side = side }) ++ number 2 keeper)

-- a flag, and the number from which the cache goes again
unfoldable pub resend : Option ℕ → List ℕ
resend None = flag false
resend (Some r) = flag true ++ number 4 r

-- the numbers of an end, but for its name
unfoldable pub counts : {P : Type 0} → EndAt P → List ℕ
counts e = number 4 e.conn ++ (number 2 e.peer ++ (number 4 e.sent ++ (number 4 e.taken ++ number 1 e.hops)))

-- the fields of a body, but for its end's name
unfoldable pub body : {P : Type 0} → BodyAt P → List ℕ
body (Carry e conn n taken msg) = number 4 conn ++ (number 4 n ++ (number 4 taken ++ message msg))
body (Fin e conn n) = number 4 conn ++ number 4 n
body (Claim e) = []
body (Signal e conn party taken) = number 4 conn ++ (number 2 party ++ number 4 taken)
body (Ack e conn) = number 4 conn
body (Give e r) = counts e ++ (number 4 (length e.cache) ++ (flat_map message e.cache ++ resend r))
body (Open sess) = []

-- what follows the length of a frame
unfoldable pub inside : {P : Type 0} → FrameAt P → List ℕ
inside f = number 1 (version_of (kind_of f.body)) ++ (number 1 (code (kind_of f.body)) ++ (number 8 f.clock ++ (end_id (end_in f.body) ++ body f.body)))

-- bytes with their length before them
unfoldable pub framed : List ℕ → List ℕ
framed bytes = number 4 (length bytes) ++ bytes

-- a frame; the place of an end isn't spelt
unfoldable pub spelling : {P : Type 0} → FrameAt P → List ℕ
spelling f = framed (inside f)
