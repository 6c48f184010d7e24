-- Protocols, and behind them the kinds that they carry.
use Rattle.std.specs.Prelude.{◌≡◌, ℕ, List, map}
use Rattle.sj_lang.specs.FileAt.{protocol_named}
use Rattle.sj_lang.specs.FileView.{protocol_of}
use Rattle.sj_lang.specs.declared.file.ProtocolDef.{ProtocolDef}

-- the same protocol stands first under each name
abbrev pub AreNamedAlike : (old new : List ProtocolDef) → Type 0
AreNamedAlike old new = (p : ℕ) → protocol_named (map protocol_of new) p ≡ protocol_named (map protocol_of old) p
