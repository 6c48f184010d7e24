-- The canonical text of a file:
-- of all the texts that stand for it, lines aside, the one that printers write.
use Rattle.std.specs.Prelude.{ℕ, List, [], ◌∷◌, ◌++◌, codes}
use Rattle.sj_lang.specs.Place.{Place}
use Rattle.sj_lang.specs.FileAt.{ProtocolAt, PartyAt, DeclAt, ConnectAt, FileAt}
use Rattle.sj_grammar.specs.Tables.{Spelling}
use Rattle.sj_grammar.specs.Canonical.{body_text}
use Rattle.sj_grammar.specs.Files.{names_of}
use Rattle.sj_party.specs.CanonicalCode.{block_text, named_text, pair_text, newline}

-- the line of a protocol: a word before it, its name, and its body in braces
abbrev pub protocol_line : List ℕ → (ℕ → List ℕ) → ℕ → Place → List ℕ
protocol_line lead word n body = lead ++ (codes " " ++ (word n ++ (codes " { " ++ (body_text word body ++ codes " }\n"))))

module _ (names : Spelling) where
  -- a party, with its statements two spaces in
  abbrev pub party_text : PartyAt → List ℕ
  party_text q = named_text names (codes "party ") q.name ++ (block_text names 0 q.code ++ newline)

  -- the names of an end, each after a space
  unfoldable pub end_text : DeclAt → List ℕ
  end_text d = pair_text names (codes " ") d.party d.name ++ named_text names (codes " ") d.protocol

  -- the line of a connection
  abbrev pub connect_text : ConnectAt → List ℕ
  connect_text c = codes "connect" ++ (end_text c.first ++ (codes " to" ++ (end_text c.second ++ codes ";\n")))

  abbrev pub protocols_text : List ProtocolAt → List ℕ
  protocols_text [] = []
  protocols_text (p ∷ ps) = protocol_line (codes "protocol") names.word p.name p.body ++ protocols_text ps

  abbrev pub parties_text : List PartyAt → List ℕ
  parties_text [] = []
  parties_text (q ∷ qs) = party_text q ++ parties_text qs

  abbrev pub connects_text : List ConnectAt → List ℕ
  connects_text [] = []
  connects_text (c ∷ cs) = connect_text c ++ connects_text cs

abbrev pub file_text : FileAt → List ℕ
file_text f = protocols_text (names_of f) f.protocols ++ (parties_text (names_of f) f.parties ++ connects_text (names_of f) f.connects)
