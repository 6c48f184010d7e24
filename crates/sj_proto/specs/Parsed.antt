-- What a call of a parser read, where it went wrong, and what it did to the tables.
use Rattle.std.specs.Prelude.{◌≡◌, ℕ, ◌+◌, ◌*◌, ◌^◌, ◌≤◌, List, ◌++◌, length}
use Rattle.sj_lang.specs.declared.file.Names.{Names}
use Rattle.sj_grammar.specs.declared.refusal.ParseRefusal.{ParseRefusal}
use Rattle.sj_lang.specs.Limits.{limits}
use Rattle.sj_grammar.specs.Reading.{Reading}
use Rattle.sj_grammar.specs.Tables.{Spelling, Spells}
use Rattle.sj_grammar.specs.Positions.{Pieces, Piece, At, at, Begins, BeginsOnLines}
use Rattle.sj_grammar.specs.FileDues.{Due, file_layer}
use Rattle.sj_grammar.specs.Faults.{Stuck}
use Rattle.sj_grammar.specs.Refusals.{OnFault}

-- where the reader stands with these tables
abbrev pub standing : Reading → Names → At
standing r names = at r names.words names.texts

-- from here to there the text is spelled so, by each spelling that agrees with the table there
abbrev pub Gives : At → At → ((ℕ → List ℕ) → Pieces) → ((ℕ → List ℕ) → Type 0) → Type 0
Gives a b pieces Fits = (word : ℕ → List ℕ) → Spells word b.words → Begins a (pieces word) b × Fits word

-- the same, where some pieces stand on a line
abbrev pub GivesOnLines : At → At → (Spelling → List Piece) → (Spelling → Type 0) → Type 0
GivesOnLines a b pieces Fits = (names : Spelling) → Spells names.word b.words → BeginsOnLines a (pieces names) b × Fits names

-- the fault is the first one, whatever is due later
abbrev pub Stops : (List Due → List Due) → ℕ → At → ParseRefusal → Type 0
Stops due n a = OnFault (λ f. (ds : List Due) → Stuck file_layer limits n a (due ds) f)

-- the first table, and then more
pub record Extends (old new : List (List ℕ)) : Type 0 where
  pub more : List (List ℕ)
  pub whole : new ≡ old ++ more

-- names are added after the old ones; the texts stay
pub record Keeps (old new : Names) : Type 0 where
  pub words : Extends old.words new.words
  pub texts : new.texts ≡ old.texts

-- words have numbers of 16 bits
abbrev pub limit_of_names : ℕ
limit_of_names = 2 ^ 16

-- what names may still come: each new one takes two bytes
abbrev pub need : List (List ℕ) → Reading → ℕ
need words r = 2 * length words + length r.ahead

-- within it each new one has a number below the limit
abbrev pub room_for_names : ℕ
room_for_names = 2 * limit_of_names

-- so many words, and texts, may be there before a text is read:
-- there is room for those of each text
abbrev pub names_before : ℕ
names_before = 32768

abbrev pub HasRoom : Names → Reading → Type 0
HasRoom names r = need names.words r ≤ room_for_names
