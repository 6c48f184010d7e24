-- What `show` prints.
use Rattle.std.specs.Prelude.{ℕ, List, [], ◌∷◌, ◌++◌, codes}
use Rattle.sj_lang.specs.Dual.{dual_of}
use Rattle.sj_lang.specs.FileAt.{ProtocolAt, FileAt}
use Rattle.sj_grammar.specs.Files.{names_of}
use Rattle.sj_party.specs.CanonicalFile.{protocol_line}

-- the line of a protocol, and that of its dual
abbrev pub shown_protocol : (ℕ → List ℕ) → ProtocolAt → List ℕ
shown_protocol word p = protocol_line (codes "protocol") word p.name p.body ++ protocol_line (codes "dual") word p.name (dual_of p.body)

abbrev pub shown_protocols : (ℕ → List ℕ) → List ProtocolAt → List ℕ
shown_protocols word [] = []
shown_protocols word (p ∷ ps) = shown_protocol word p ++ shown_protocols word ps

-- each protocol with its dual, in order
abbrev pub shown : FileAt → List ℕ
shown file = shown_protocols (names_of file).word file.protocols
