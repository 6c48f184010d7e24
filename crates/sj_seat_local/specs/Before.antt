-- What stands before the line `%%talk`.
use Rattle.std.specs.Prelude.{◌≡◌, ◌≢◌, ◌<◌, ◌≤◌, ℕ, List, [], ◌∷◌, ◌++◌, Option, Some, IfSome, codes, length}
use Rattle.sj_base.specs.Stream.{Rose}
use Rattle.sj_acceptance.specs.Accepted.{IsAccepted}
use Rattle.sj_grammar.specs.Files.{IsFile}
use Rattle.sj_lang.specs.FileAt.{FileAt}
use Rattle.sj_lang.specs.Limits.{file_limit}
use Rattle.sj_seat_lines.specs.Reading.{ReaderAt, after_line, first_line, newline}
use Rattle.sj_seat_local.specs.declared.files.Before.{Before}
use Rattle.sj_seat_local.specs.declared.files.Before.TheVariants.{File, ReadFault, TooLarge, NoTalk}

-- the line after which a party is played by lines
abbrev pub talk_line : List ℕ
talk_line = codes "%%talk"

-- the text is of lines of the source, one after another and each with its newline, of which none is that one; the rest stands after them
pub data StandsBefore (source : List ℕ) : (text rest : List ℕ) → Type 0 where
  begins : StandsBefore source [] source
  goes : (text rest : List ℕ) → StandsBefore source text rest → rest ≢ [] → first_line rest ≢ talk_line → StandsBefore source (text ++ (first_line rest ++ newline ∷ [])) (after_line rest)

-- the text stands before that line; the rest begins with it
pub record IsText (source text rest : List ℕ) : Type 0 where
  pub stands : StandsBefore source text rest
  pub talk : first_line rest ≡ talk_line

-- that text stands before that line
abbrev pub BeginsWith : Option (List ℕ) → List ℕ → Type 0
BeginsWith left text = IfSome left (λ source. (rest : List ℕ) × IsText source text rest)

-- no line is that one
abbrev pub HasNoTalk : List ℕ → Type 0
HasNoTalk source = (text : List ℕ) × StandsBefore source text []

-- before that line, if there is one, stands more than a file may have
pub record IsTooLarge (source : List ℕ) : Type 0 where
  pub text : List ℕ
  pub rest : List ℕ
  pub stands : StandsBefore source text rest
  pub large : file_limit < length text

-- the text was read, and the line after it
abbrev pub HasText : Option (List ℕ) → List ℕ → Option (List ℕ) → Type 0
HasText old text new = IfSome old (λ source. (rest : List ℕ) × IsText source text rest × (new ≡ Some (after_line rest)))

-- what is read of a source up to that line
abbrev pub ReadsBefore : ReaderAt → Before → ReaderAt → Type 0
ReadsBefore old (File bytes) new = HasText old.left bytes.items new.left × (length bytes.items ≤ file_limit)
ReadsBefore old ReadFault new = Rose old.faults new.faults
ReadsBefore old TooLarge new = IfSome old.left IsTooLarge
ReadsBefore old NoTalk new = IfSome old.left HasNoTalk

-- no accepted file has that text
abbrev pub IsNoAccepted : List ℕ → Type 0
IsNoAccepted text = (file : FileAt) → IsFile text file → IsAccepted file → ⊥

-- the text is that of the accepted file
pub record IsTextOf (text : List ℕ) (file : FileAt) : Type 0 where
  pub stands : IsFile text file
  pub accepted : IsAccepted file
