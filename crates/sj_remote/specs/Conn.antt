-- A connection: what came and no reply has used up, and what is left to come.
use Rattle.std.specs.Prelude.{◌≡◌, ◌⊎◌, ℕ, ◌<◌, List, ◌++◌, length, Option}
use Rattle.sj_base.specs.Stream.{Rose, put_before}
use Rattle.sj_resp.specs.Command.{AreRead}
use Rattle.sj_resp.specs.Front.{Refused, front_of}
use Rattle.sj_resp.specs.Token.{TokenAt}
use Rattle.sj_resp.specs.declared.refusal.RespRefusal.{RespRefusal}
use Rattle.sj_resp.specs.declared.refusal.RespRefusal.TheVariants as refusals
use Rattle.sj_streams.specs.Gathering.{AreDue, due_after}
use Rattle.sj_remote.specs.declared.conn.Conn.{Conn}
use Rattle.sj_remote.specs.declared.refusal.ConnRefusal.{ConnRefusal}
use Rattle.sj_remote.specs.declared.refusal.ConnRefusal.TheVariants as conns

-- out of memory is that; any other refusal of a token means that there is no reply
abbrev pub conn_refusal : RespRefusal → ConnRefusal
conn_refusal refusals.NoMemory = conns.NoMemory
conn_refusal refusals.Kind = conns.NoReply
conn_refusal refusals.Long = conns.NoReply
conn_refusal refusals.Line = conns.NoReply
conn_refusal refusals.Number = conns.NoReply
conn_refusal refusals.End = conns.NoReply

module _ {S K : Type 0} where
  abbrev pub source_of : Conn S K → S
  source_of c = c.source

  abbrev pub sink_of : Conn S K → K
  sink_of c = c.sink

  -- the bytes that came and that no reply has used up
  abbrev pub heard : Conn S K → List ℕ
  heard c = c.decoder

  -- bytes came, at least one, and go after those that are unused
  pub record Hears (left : S → Option (List ℕ)) (old new : Conn S K) : Type 0 where
    pub bytes : List ℕ
    pub some : 0 < length bytes
    pub came : left (source_of old) ≡ put_before bytes (left (source_of new))
    pub fed : heard new ≡ heard old ++ bytes

  -- the tokens were read of what was unused and of the bytes that came since
  pub record Replied (left : S → Option (List ℕ)) (old new : Conn S K) (tokens : List TokenAt) : Type 0 where
    pub bytes : List ℕ
    pub came : left (source_of old) ≡ put_before bytes (left (source_of new))
    pub read : AreRead tokens (heard old ++ bytes) (heard new)

  -- a read failed, or the end is there
  abbrev pub IsLost : (S → ℕ) → (S → Type 0) → (old new : Conn S K) → Type 0
  IsLost faults has_ended old new = Rose (faults (source_of old)) (faults (source_of new)) ⊎ has_ended (source_of new)

  -- after some tokens of a reply that isn't whole comes what is no token, whatever bytes follow
  pub record IsNoReply (left : S → Option (List ℕ)) (old new : Conn S K) : Type 0 where
    pub tokens : List TokenAt
    pub replied : Replied left old new tokens
    pub begun : AreDue 1 tokens
    pub short : 0 < due_after 1 tokens
    pub cause : RespRefusal
    pub refused : front_of (heard new) ≡ Refused cause
