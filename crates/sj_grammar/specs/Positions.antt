-- Where a reader stands, and how tokens move it.
use Rattle.std.specs.Prelude.{◌≡◌, ℕ, List, [], ◌∷◌, ◌++◌, Option, Some, None, IfSome, map, if◌then◌else◌}
use Rattle.sj_grammar.specs.declared.tokens.What.{What}
use Rattle.sj_grammar.specs.Lexis.{next_of, token}
use Rattle.sj_grammar.specs.Reading.{Reading, passed, line_number}
use Rattle.sj_grammar.specs.Names.{is_name}
use Rattle.sj_grammar.specs.Literals.{is_text, inner}
use Rattle.sj_grammar.specs.Tables.{with_entry}

-- the spellings of tokens
abbrev pub Pieces : Type 0
Pieces = List (List ℕ)

-- where a reader stands: in its text, with the names and the texts that it has seen
pub record At : Type 0 where
  pub text : Reading
  pub words : List (List ℕ)
  pub texts : List (List ℕ)

abbrev pub at : Reading → List (List ℕ) → List (List ℕ) → At
at r words texts = record { text = r; words = words; texts = texts }

-- before the first token
abbrev pub start : List ℕ → List (List ℕ) → List (List ℕ) → At
start bytes words texts = at (record { before = []; ahead = bytes }) words texts

-- after a token: a name and a text get their numbers where they are new
abbrev pub past : At → List ℕ → List ℕ → At
past a s rest = record {
  text = record { before = passed a.text rest; ahead = rest };
  words = if is_name s then with_entry a.words s else a.words;
  texts = if is_text s then with_entry a.texts (inner s) else a.texts;
}

-- the next token is spelled so, and the reader then stands there
pub record Takes (a : At) (s : List ℕ) (b : At) : Type 0 where
  pub what : What
  pub rest : List ℕ
  pub token : next_of a.text.ahead ≡ token what s rest
  pub there : b ≡ past a s rest

-- the tokens ahead are spelled so, and the reader then stands there
abbrev pub Begins : At → Pieces → At → Type 0
Begins a [] b = a ≡ b
Begins a (p ∷ ps) b = (m : At) × Takes a p m × Begins m ps b

-- a token, and its line where something stands on that line
pub record Piece : Type 0 where
  pub spelled : List ℕ
  pub line : Option ℕ

abbrev pub plain : List ℕ → Piece
plain s = record { spelled = s; line = None }

-- the token with which something on that line begins
abbrev pub first_on : ℕ → List ℕ → Piece
first_on l s = record { spelled = s; line = Some l }

abbrev pub all_plain : Pieces → List Piece
all_plain ps = map plain ps

abbrev pub spellings : List Piece → Pieces
spellings ps = map (λ p. p.spelled) ps

-- the next token is that piece, on its line
pub record TakesPiece (a : At) (p : Piece) (b : At) : Type 0 where
  pub taken : Takes a p.spelled b
  pub line : IfSome p.line (λ l. l ≡ line_number (passed a.text (p.spelled ++ taken.rest)))

-- the tokens ahead are these pieces, each on its line, and the reader then stands there
abbrev pub BeginsOnLines : At → List Piece → At → Type 0
BeginsOnLines a [] b = a ≡ b
BeginsOnLines a (p ∷ ps) b = (m : At) × TakesPiece a p m × BeginsOnLines m ps b
