-- The words that statements begin with, and what is due after them.
use Rattle.std.specs.Prelude.{◌≡◌, ℕ, false, List, [], ◌∷◌, codes}
use Rattle.std.specs.Str.{bytes_eq}
use Rattle.sj_grammar.specs.Names.{is_name}
use Rattle.sj_grammar.specs.Literals.{is_text, is_largest}
use Rattle.sj_grammar.specs.Positions.{Pieces}
use Rattle.sj_grammar.specs.ExpressionDues.{whole}
use Rattle.sj_grammar.specs.FileDues.{Due, name, fixed, expr, awaited, block, branches, semicolon}
use Rattle.sj_party.specs.declared.first_words.Word.{Word}
use Rattle.sj_party.specs.declared.first_words.Word.TheVariants as words
use Rattle.sj_party.specs.declared.first_words.FirstWord.{FirstWord}
use Rattle.sj_party.specs.declared.first_words.FirstWord.TheVariants as firsts

abbrev pub simple_word : Word → List ℕ
simple_word words.Send = codes "send"
simple_word words.Delegate = codes "delegate"
simple_word words.Recv = codes "recv"
simple_word words.Outbranch = codes "outbranch"
simple_word words.Let = codes "let"
simple_word words.Close = codes "close"
simple_word words.Request = codes "request"
simple_word words.Accept = codes "accept"

abbrev pub word_of : FirstWord → List ℕ
word_of (firsts.Simple w) = simple_word w
word_of firsts.Inbranch = codes "inbranch"
word_of firsts.Outwhile = codes "outwhile"
word_of firsts.Inwhile = codes "inwhile"
word_of firsts.Relay = codes "relay"
word_of firsts.If = codes "if"

abbrev pub simple_dues : Word → List Due → List Due
simple_dues words.Send ds = name ∷ expr whole ∷ semicolon ∷ ds
simple_dues words.Delegate ds = name ∷ name ∷ semicolon ∷ ds
simple_dues words.Recv ds = name ∷ name ∷ awaited ∷ semicolon ∷ ds
simple_dues words.Outbranch ds = name ∷ name ∷ semicolon ∷ ds
simple_dues words.Let ds = name ∷ fixed (codes "=") ∷ expr whole ∷ semicolon ∷ ds
simple_dues words.Close ds = name ∷ semicolon ∷ ds
simple_dues words.Request ds = name ∷ name ∷ fixed (codes "to") ∷ name ∷ semicolon ∷ ds
simple_dues words.Accept ds = name ∷ name ∷ fixed (codes "from") ∷ name ∷ semicolon ∷ ds

-- after the word, inside so many inner braces
abbrev pub dues_behind : FirstWord → ℕ → List Due → List Due
dues_behind (firsts.Simple w) o ds = simple_dues w ds
dues_behind firsts.Inbranch o ds = name ∷ fixed (codes "{") ∷ name ∷ fixed (codes ":") ∷ block o ∷ branches o ∷ fixed (codes "}") ∷ ds
dues_behind firsts.Outwhile o ds = name ∷ expr whole ∷ block o ∷ ds
dues_behind firsts.Inwhile o ds = name ∷ block o ∷ ds
dues_behind firsts.Relay o ds = name ∷ name ∷ block o ∷ ds
dues_behind firsts.If o ds = expr whole ∷ block o ∷ fixed (codes "else") ∷ block o ∷ ds

-- neither a name nor a text nor 2^63
pub record IsFixed (s : List ℕ) : Type 0 where
  pub no_name : is_name s ≡ false
  pub no_text : is_text s ≡ false
  pub no_largest : is_largest s ≡ false

-- none of these words
abbrev pub NoneOf : Pieces → List ℕ → Type 0
NoneOf [] s = Unit {0}
NoneOf (w ∷ ws) s = (bytes_eq s w ≡ false) × NoneOf ws s

abbrev pub simple_words : Pieces
simple_words = codes "send" ∷ codes "delegate" ∷ codes "recv" ∷ codes "outbranch" ∷ codes "let" ∷ codes "close" ∷ codes "request" ∷ codes "accept" ∷ []
