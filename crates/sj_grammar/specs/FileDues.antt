-- What is due in a file, and so which tokens can stand there.
use Rattle.std.specs.Prelude.{ℕ, suc, Bool, true, false, nat_le, nat_lt, List, [], ◌∷◌, length, map, codes, Option, Some, None, option_map, if◌then◌else◌}
use Rattle.std.specs.Str.{bytes_eq}
use Rattle.sj_lang.specs.Limits.{Limits}
use Rattle.sj_grammar.specs.Names.{is_name}
use Rattle.sj_grammar.specs.Layers.{Layer}
use Rattle.sj_grammar.specs.ProtocolDues.{ProtocolDue, body, protocol_follow, protocol_may_be_none, protocol_counted, protocol_passes}
use Rattle.sj_grammar.specs.ExpressionDues.{ExpressionDue, whole, expression_follow, expression_may_be_none, expression_counted, expression_passes}

pub data Due : Type 0 where
  -- more protocols, parties, connections, with so many before them; there may be none
  protocols : ℕ → Due
  parties : ℕ → Due
  connects : ℕ → Due
  -- statements inside so many inner braces, maybe none
  stmts : ℕ → Due
  -- a block inside so many inner braces
  block : ℕ → Due
  -- more arms of an `inbranch`; there may be none
  branches : ℕ → Due
  -- what a `recv` awaits, after its two names
  awaited : Due
  name : Due
  fixed : List ℕ → Due
  proto : ProtocolDue → Due
  expr : ExpressionDue → Due

abbrev pub semicolon : Due
semicolon = fixed (codes ";")

-- after the first token of a statement
unfoldable pub statement_follow : ℕ → List ℕ → Option (List Due)
statement_follow o s =
    if bytes_eq s (codes "send") then Some (name ∷ expr whole ∷ semicolon ∷ stmts o ∷ [])
    else (if bytes_eq s (codes "delegate") then Some (name ∷ name ∷ semicolon ∷ stmts o ∷ [])
    else (if bytes_eq s (codes "recv") then Some (name ∷ name ∷ awaited ∷ semicolon ∷ stmts o ∷ [])
    else (if bytes_eq s (codes "outbranch") then Some (name ∷ name ∷ semicolon ∷ stmts o ∷ [])
    else (if bytes_eq s (codes "inbranch") then Some (name ∷ fixed (codes "{") ∷ name ∷ fixed (codes ":") ∷ block o ∷ branches o ∷ fixed (codes "}") ∷ stmts o ∷ [])
    else (if bytes_eq s (codes "outwhile") then Some (name ∷ expr whole ∷ block o ∷ stmts o ∷ [])
    else (if bytes_eq s (codes "inwhile") then Some (name ∷ block o ∷ stmts o ∷ [])
    else (if bytes_eq s (codes "relay") then Some (name ∷ name ∷ block o ∷ stmts o ∷ [])
    else (if bytes_eq s (codes "if") then Some (expr whole ∷ block o ∷ fixed (codes "else") ∷ block o ∷ stmts o ∷ [])
    else (if bytes_eq s (codes "let") then Some (name ∷ fixed (codes "=") ∷ expr whole ∷ semicolon ∷ stmts o ∷ [])
    else (if bytes_eq s (codes "close") then Some (name ∷ semicolon ∷ stmts o ∷ [])
    else (if bytes_eq s (codes "request") then Some (name ∷ name ∷ fixed (codes "to") ∷ name ∷ semicolon ∷ stmts o ∷ [])
    else (if bytes_eq s (codes "accept") then Some (name ∷ name ∷ fixed (codes "from") ∷ name ∷ semicolon ∷ stmts o ∷ []) else None))))))))))))

abbrev pub awaited_follow : List ℕ → Option (List Due)
awaited_follow s =
    if bytes_eq s (codes "int") then Some []
    else (if bytes_eq s (codes "boolean") then Some []
    else (if bytes_eq s (codes "String") then Some []
    else (if bytes_eq s (codes "session") then Some (name ∷ []) else None)))

abbrev pub file_follow : Due → List ℕ → Option (List Due)
file_follow (protocols k) s = if bytes_eq s (codes "protocol") then Some (name ∷ fixed (codes "{") ∷ proto body ∷ fixed (codes "}") ∷ protocols (suc k) ∷ []) else None
file_follow (parties k) s = if bytes_eq s (codes "party") then Some (name ∷ fixed (codes "{") ∷ stmts 0 ∷ fixed (codes "}") ∷ parties (suc k) ∷ []) else None
file_follow (connects k) s =
    if bytes_eq s (codes "connect") then Some (name ∷ name ∷ name ∷ fixed (codes "to") ∷ name ∷ name ∷ name ∷ semicolon ∷ connects (suc k) ∷ []) else None
file_follow (stmts o) s = statement_follow o s
file_follow (block o) s = if bytes_eq s (codes "{") then Some (stmts (suc o) ∷ fixed (codes "}") ∷ []) else None
file_follow (branches o) s = if is_name s then Some (fixed (codes ":") ∷ block o ∷ branches o ∷ []) else None
file_follow awaited s = awaited_follow s
file_follow name s = if is_name s then Some [] else None
file_follow (fixed p) s = if bytes_eq s p then Some [] else None
file_follow (proto d) s = option_map (map proto) (protocol_follow d s)
file_follow (expr d) s = option_map (map expr) (expression_follow d s)

abbrev pub file_may_be_none : Due → Bool
file_may_be_none (protocols k) = true
file_may_be_none (parties k) = true
file_may_be_none (connects k) = true
file_may_be_none (stmts o) = true
file_may_be_none (block o) = false
file_may_be_none (branches o) = true
file_may_be_none awaited = false
file_may_be_none name = false
file_may_be_none (fixed p) = false
file_may_be_none (proto d) = protocol_may_be_none d
file_may_be_none (expr d) = expression_may_be_none d

abbrev pub file_counted : ℕ → Due → List ℕ → ℕ
file_counted n (proto d) s = protocol_counted n d s
file_counted n (expr d) s = expression_counted n d s
file_counted n _ s = n

-- one protocol, party or connection too many; a block's brace too deep; a name too long
abbrev pub file_passes : Limits → ℕ → Due → List ℕ → Bool
file_passes L n (protocols k) s = nat_le L.protocols k
file_passes L n (parties k) s = nat_le L.parties k
file_passes L n (connects k) s = nat_le L.connects k
file_passes L n (stmts o) s = false
file_passes L n (block o) s = nat_le L.nesting o
file_passes L n (branches o) s = nat_lt L.name (length s)
file_passes L n awaited s = false
file_passes L n name s = nat_lt L.name (length s)
file_passes L n (fixed p) s = false
file_passes L n (proto d) s = protocol_passes L n d s
file_passes L n (expr d) s = expression_passes L n d s

abbrev pub file_layer : Layer Due
file_layer = record { follow = file_follow; may_be_none = file_may_be_none; counted = file_counted; passes = file_passes }

-- what is due at the beginning of a file
abbrev pub file_due : List Due
file_due = protocols 0 ∷ parties 0 ∷ connects 0 ∷ []
