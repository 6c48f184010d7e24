-- The grammar of files.
use Rattle.std.specs.Prelude.{◌≡◌, ℕ, ◌≤◌, List, [], ◌∷◌, ◌++◌, length, All, codes}
use Rattle.sj_lang.specs.FileAt.{ProtocolAt, PartyAt, DeclAt, ConnectAt, FileAt}
use Rattle.sj_lang.specs.Code.{Code}
use Rattle.sj_lang.specs.Limits.{Limits, limits}
use Rattle.sj_grammar.specs.Lexis.{next_of, at_end}
use Rattle.sj_grammar.specs.Tables.{Spelling, entry_of, IsNamed}
use Rattle.sj_grammar.specs.Positions.{Piece, plain, first_on, all_plain, At, start, BeginsOnLines}
use Rattle.sj_grammar.specs.Protocols.{body_pieces, IsBody}
use Rattle.sj_grammar.specs.Statements.{braced, IsCode}

-- protocols and connections are written in one way
module _ (word : ℕ → List ℕ) where
  abbrev pub protocol_pieces : ProtocolAt → List Piece
  protocol_pieces p = first_on p.line (codes "protocol") ∷ plain (word p.name) ∷ braced (all_plain (body_pieces word p.body))

  abbrev pub end_pieces : DeclAt → List Piece
  end_pieces d = plain (word d.party) ∷ plain (word d.name) ∷ plain (word d.protocol) ∷ []

  abbrev pub connect_pieces : ConnectAt → List Piece
  connect_pieces c = first_on c.line (codes "connect") ∷ (end_pieces c.first ++ plain (codes "to") ∷ (end_pieces c.second ++ plain (codes ";") ∷ []))

  abbrev pub protocols_pieces : List ProtocolAt → List Piece
  protocols_pieces [] = []
  protocols_pieces (p ∷ ps) = protocol_pieces p ++ protocols_pieces ps

  abbrev pub connects_pieces : List ConnectAt → List Piece
  connects_pieces [] = []
  connects_pieces (c ∷ cs) = connect_pieces c ++ connects_pieces cs

-- what the grammar gives, parties with their pieces
module _ (L : Limits) (names : Spelling) where
  pub record IsProtocolDef (p : ProtocolAt) : Type 0 where
    pub name : IsNamed L names.word p.name
    pub body : IsBody L names.word p.body

  pub record IsEnd (d : DeclAt) : Type 0 where
    pub party : IsNamed L names.word d.party
    pub name : IsNamed L names.word d.name
    pub protocol : IsNamed L names.word d.protocol

  pub record IsConnect (c : ConnectAt) : Type 0 where
    pub first : IsEnd c.first
    pub second : IsEnd c.second

  pub data AreParties : List PartyAt → List Piece → Type 0 where
    no_party : AreParties [] []
    one_party : {l n : ℕ} {code : Code} {a : List Piece} {qs : List PartyAt} {b : List Piece} → IsNamed L names.word n → IsCode L names 0 code a → AreParties qs b
        → AreParties (record { line = l; name = n; code = code } ∷ qs) (first_on l (codes "party") ∷ plain (names.word n) ∷ (braced a ++ b))

-- the spelling that the file's tables have
abbrev pub names_of : FileAt → Spelling
names_of f = record { word = entry_of f.words; text = entry_of f.texts }

-- the pieces are that file
pub record IsSpelled (L : Limits) (f : FileAt) (ps : List Piece) : Type 0 where
  pub parties : List Piece
  pub same : ps ≡ protocols_pieces (entry_of f.words) f.protocols ++ (parties ++ connects_pieces (entry_of f.words) f.connects)
  pub all_protocols : All (IsProtocolDef L (names_of f)) f.protocols
  pub all_parties : AreParties L (names_of f) f.parties parties
  pub all_connects : All (IsConnect L (names_of f)) f.connects
  pub few_protocols : length f.protocols ≤ L.protocols
  pub few_parties : length f.parties ≤ L.parties
  pub few_connects : length f.connects ≤ L.connects

-- the text stands for the file, whatever blanks and comments it has;
-- names and texts have their numbers in order of first occurrence
pub record IsFile (bytes : List ℕ) (f : FileAt) : Type 0 where
  pub pieces : List Piece
  pub spelled : IsSpelled limits f pieces
  pub end : At
  pub begins : BeginsOnLines (start bytes [] []) pieces end
  pub whole : next_of end.text.ahead ≡ at_end
  pub words : end.words ≡ f.words
  pub texts : end.texts ≡ f.texts
