-- What is due in a protocol, and so which tokens can stand there.
use Rattle.std.specs.Prelude.{ℕ, suc, Bool, true, false, ◌&&◌, ◌||◌, nat_le, nat_lt, List, [], ◌∷◌, length, codes, Option, Some, None, if◌then◌else◌}
use Rattle.std.specs.Str.{bytes_eq}
use Rattle.sj_lang.specs.declared.proto.Way.{Way}
use Rattle.sj_lang.specs.declared.proto.Way.TheVariants.{Out, Into}
use Rattle.sj_lang.specs.Limits.{Limits}
use Rattle.sj_grammar.specs.Names.{is_name}
use Rattle.sj_grammar.specs.Protocols.{open_piece, close_piece}
use Rattle.sj_grammar.specs.Layers.{Layer}

-- inside so many brackets
pub data ProtocolDue : Type 0 where
  -- a protocol, from its `begin` on
  body : ProtocolDue
  -- items, each with a dot before it; there may be none
  more : ℕ → ProtocolDue
  -- items, one at least
  seq : ℕ → ProtocolDue
  -- items, maybe none
  maybe : ℕ → ProtocolDue
  -- what stands after a `!` or a `?`
  behind : ℕ → Way → ProtocolDue
  kind : ℕ → ProtocolDue
  -- a label, with so many arms before its own
  label : ℕ → ProtocolDue
  -- more arms, with so many before them
  arms : ℕ → ℕ → ProtocolDue
  -- this piece
  fixed : List ℕ → ProtocolDue

abbrev pub is_way : List ℕ → Bool
is_way s = bytes_eq s (codes "!") || bytes_eq s (codes "?")

-- after the first token of an item
abbrev pub item_follow : ℕ → List ℕ → Option (List ProtocolDue)
item_follow o s =
    if bytes_eq s (codes "!") then Some (behind o Out ∷ more o ∷ [])
    else (if bytes_eq s (codes "?") then Some (behind o Into ∷ more o ∷ []) else None)

abbrev pub protocol_follow : ProtocolDue → List ℕ → Option (List ProtocolDue)
protocol_follow body s = if bytes_eq s (codes "begin") then Some (more 0 ∷ []) else None
protocol_follow (more o) s = if bytes_eq s (codes ".") then Some (seq o ∷ []) else None
protocol_follow (seq o) s = item_follow o s
protocol_follow (maybe o) s = item_follow o s
protocol_follow (behind o w) s =
    if bytes_eq s (open_piece w) then Some (kind (suc o) ∷ fixed (close_piece w) ∷ [])
    else (if bytes_eq s (codes "{") then Some (label 0 ∷ fixed (codes ":") ∷ maybe (suc o) ∷ arms (suc o) 1 ∷ fixed (codes "}") ∷ [])
    else (if bytes_eq s (codes "[") then Some (maybe (suc o) ∷ fixed (codes "]") ∷ fixed (codes "*") ∷ []) else None))
protocol_follow (kind o) s =
    if bytes_eq s (codes "int") then Some []
    else (if bytes_eq s (codes "boolean") then Some []
    else (if bytes_eq s (codes "String") then Some [] else item_follow o s))
protocol_follow (label k) s = if is_name s then Some [] else None
protocol_follow (arms o k) s = if bytes_eq s (codes ",") then Some (label k ∷ fixed (codes ":") ∷ maybe o ∷ arms o (suc k) ∷ []) else None
protocol_follow (fixed p) s = if bytes_eq s p then Some [] else None

abbrev pub protocol_may_be_none : ProtocolDue → Bool
protocol_may_be_none body = false
protocol_may_be_none (more o) = true
protocol_may_be_none (seq o) = false
protocol_may_be_none (maybe o) = true
protocol_may_be_none (behind o w) = false
protocol_may_be_none (kind o) = false
protocol_may_be_none (label k) = false
protocol_may_be_none (arms o k) = true
protocol_may_be_none (fixed p) = false

-- items are counted from the `begin` on, each at its first token
abbrev pub protocol_counted : ℕ → ProtocolDue → List ℕ → ℕ
protocol_counted n body s = 0
protocol_counted n (more o) s = n
protocol_counted n (seq o) s = suc n
protocol_counted n (maybe o) s = suc n
protocol_counted n (behind o w) s = n
protocol_counted n (kind o) s = if is_way s then suc n else n
protocol_counted n (label k) s = n
protocol_counted n (arms o k) s = n
protocol_counted n (fixed p) s = n

-- one item too many; a bracket too deep; an arm too many, or too long a label
abbrev pub protocol_passes : Limits → ℕ → ProtocolDue → List ℕ → Bool
protocol_passes L n body s = false
protocol_passes L n (more o) s = false
protocol_passes L n (seq o) s = nat_le L.items n
protocol_passes L n (maybe o) s = nat_le L.items n
protocol_passes L n (behind o w) s = nat_le L.nesting o
protocol_passes L n (kind o) s = is_way s && nat_le L.items n
protocol_passes L n (label k) s = nat_le L.labels k || nat_lt L.name (length s)
protocol_passes L n (arms o k) s = false
protocol_passes L n (fixed p) s = false

abbrev pub protocol_layer : Layer ProtocolDue
protocol_layer = record { follow = protocol_follow; may_be_none = protocol_may_be_none; counted = protocol_counted; passes = protocol_passes }
