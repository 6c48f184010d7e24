-- The text of one protocol, and the protocols at the start of a text.
use Rattle.std.specs.Prelude.{◌≡◌, ℕ, ◌≤◌, false, List, [], ◌∷◌, length, All, codes, Result, IfOk, IfErr}
use Rattle.std.specs.Str.{bytes_eq}
use Rattle.sj_lang.specs.Place.{Place}
use Rattle.sj_lang.specs.FileAt.{ProtocolAt}
use Rattle.sj_lang.specs.declared.file.Names.{Names}
use Rattle.sj_grammar.specs.declared.tokens.Fault.{Fault}
use Rattle.sj_grammar.specs.declared.refusal.ParseRefusal.{ParseRefusal}
use Rattle.sj_grammar.specs.declared.refusal.ParseRefusal.TheVariants as refusals
use Rattle.sj_lang.specs.Limits.{limits}
use Rattle.sj_grammar.specs.Lexis.{Ahead, at_end, bad, token, next_of}
use Rattle.sj_grammar.specs.Reading.{Reading, passed, fault_at}
use Rattle.sj_grammar.specs.Tables.{Spelling, Spells, entry_of}
use Rattle.sj_grammar.specs.Positions.{At, start, Begins, BeginsOnLines}
use Rattle.sj_grammar.specs.Protocols.{body_pieces, IsBody}
use Rattle.sj_grammar.specs.Files.{protocols_pieces, IsProtocolDef}
use Rattle.sj_grammar.specs.ProtocolDues.{body, protocol_layer}
use Rattle.sj_grammar.specs.FileDues.{Due, protocols, file_layer}
use Rattle.sj_grammar.specs.Faults.{Stuck}

-- The text is a protocol, whatever blanks and comments it has. Its labels have their numbers in the
-- new tables: the old words, and then each new name in order of first occurrence.
pub record IsProtocol (bytes : List ℕ) (old new : Names) (p : Place) : Type 0 where
  pub end : At
  pub begins : Begins (start bytes old.words old.texts) (body_pieces (entry_of new.words) p) end
  pub body : IsBody limits (entry_of new.words) p
  pub whole : next_of end.text.ahead ≡ at_end
  pub words : end.words ≡ new.words
  pub texts : end.texts ≡ new.texts

-- the first fault of a text that is no protocol
abbrev pub IsFirstFault : List ℕ → Names → Fault → Type 0
IsFirstFault bytes names f = Stuck protocol_layer limits 0 (start bytes names.words names.texts) (body ∷ []) f

-- what comes next is another token, or the end
abbrev pub IsOther : List ℕ → Ahead → Type 0
IsOther s at_end = Unit {0}
IsOther s (bad rule rest) = ⊥
IsOther s (token what t rest) = bytes_eq t s ≡ false

-- a token can be read next, or nothing is left
abbrev pub IsReadable : Ahead → Type 0
IsReadable at_end = Unit {0}
IsReadable (bad rule rest) = ⊥
IsReadable (token what s rest) = Unit {0}

-- no token can be read next, and that is the fault
abbrev pub IsUnreadable : Reading → Ahead → Fault → Type 0
IsUnreadable r at_end f = ⊥
IsUnreadable r (bad rule rest) f = f ≡ fault_at (passed r rest) rule
IsUnreadable r (token what s rest) f = ⊥

-- From here to there the text is these protocols, each on its line, and no more of them.
-- It is so by each spelling that agrees with the words there, so that the words of a larger table
-- spell them too.
pub record AreProtocols (a : At) (ps : List ProtocolAt) (b : At) : Type 0 where
  pub begins : (names : Spelling) → Spells names.word b.words → BeginsOnLines a (protocols_pieces names.word ps) b
  pub defined : (names : Spelling) → Spells names.word b.words → All (IsProtocolDef limits names) ps
  pub few : length ps ≤ limits.protocols
  pub ends : IsOther (codes "protocol") (next_of b.text.ahead)

-- the first fault in the protocols at the start, whatever is due after them
abbrev pub IsFaultInProtocols : At → Fault → Type 0
IsFaultInProtocols a f = (n : ℕ) (ds : List Due) → Stuck file_layer limits n a (protocols 0 ∷ ds) f

-- an answer that is this value, or that memory is short
abbrev pub IsOnly : {X Y : Type 0} → (X → Y) → Result X ParseRefusal → Y → Type 0
IsOnly view r y = IfOk r (λ x. view x ≡ y) × IfErr r (λ e. e ≡ refusals.NoMemory)
