-- Replies without parts, and why a server refuses a command.
use Rattle.std.specs.Prelude.{ℕ, ℤ, Bool, ◌||◌, min, if◌then◌else◌, List, ◌∷◌, length, take, Option, Some, None, codes}
use Rattle.std.specs.Str.{bytes_eq}
use Rattle.sj_resp.specs.Token.{TokenAt, Simple, Failed, Int, Bulk, Null}
use Rattle.sj_streams.specs.Reading.{Read, Good, Bad}
use Rattle.sj_streams.specs.declared.misread.Misread.TheVariants as misreads
use Rattle.sj_streams.specs.declared.answers.Refusal.{Refusal}
use Rattle.sj_streams.specs.declared.answers.Refusal.TheVariants as refusals

-- the line begins with the word
abbrev pub begins_so : (word line : List ℕ) → Bool
begins_so word line = bytes_eq (take (min (length word) (length line)) line) word

-- what an error of the server means, by its first words
unfoldable pub refusal_named : (line : List ℕ) → Refusal
refusal_named line =
    if begins_so (codes "ERR The ID specified in XADD is equal or smaller") line then refusals.Late
    else if begins_so (codes "NOAUTH") line || begins_so (codes "WRONGPASS") line then refusals.Password
    else if begins_so (codes "OOM") line then refusals.Full
    else if begins_so (codes "LOADING") line || begins_so (codes "READONLY") line || begins_so (codes "MASTERDOWN") line then refusals.Away
    else refusals.Other

-- the error at the front, if there is one
abbrev pub failure_at : List TokenAt → Option (List ℕ)
failure_at (Failed line ∷ rest) = Some line
failure_at _ = None

-- a text, or a null
abbrev pub text_at : List TokenAt → Read (Option (List ℕ))
text_at (Bulk text ∷ rest) = Good (Some text) rest
text_at (Null ∷ rest) = Good None rest
text_at _ = Bad misreads.Shape

-- a number
abbrev pub number_at : List TokenAt → Read ℤ
number_at (Int n ∷ rest) = Good n rest
number_at _ = Bad misreads.Shape

-- a line that says that it went well
abbrev pub well_at : List TokenAt → Read (Unit {0})
well_at (Simple line ∷ rest) = Good tt rest
well_at _ = Bad misreads.Shape
