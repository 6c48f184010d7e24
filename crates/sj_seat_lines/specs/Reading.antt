-- Lines of a source, where it reports what is left.
use Rattle.std.specs.Prelude.{◌≡◌, ◌≢◌, ◌==◌, ◌<◌, ℕ, ⊤, nat_lt, IfSome, List, [], ◌∷◌, ◌++◌, drop, length, take, Option, if◌then◌else◌}
use Rattle.std.specs.Option.{option_map}
use Rattle.sj_base.specs.Stream.{Rose, put_before}
use Rattle.sj_seat_lines.specs.declared.reader.Byte.{Byte}
use Rattle.sj_seat_lines.specs.declared.reader.Byte.TheVariants as bytes
use Rattle.sj_seat_lines.specs.declared.reader.Came.{Came}
use Rattle.sj_seat_lines.specs.declared.reader.Came.TheVariants as reads
use Rattle.sj_seat_lines.specs.declared.reader.LineReader.{LineReader}
use Rattle.sj_seat_lines.specs.declared.reader.Next.{Next}
use Rattle.sj_seat_lines.specs.declared.reader.Next.TheVariants.{Line, End, Failed}

-- the bytes that are left: those that came and weren't taken, and those of the source
abbrev pub left_of : {S : Type 0} → (S → Option (List ℕ)) → LineReader S → Option (List ℕ)
left_of left r = put_before (drop r.at r.came.items) (left r.src)

-- the bytes that are left, where they are reported, and how often the source has failed
pub record ReaderAt : Type 0 where
  pub left : Option (List ℕ)
  pub faults : ℕ

abbrev pub reader_from : Option (List ℕ) → ℕ → ReaderAt
reader_from left faults = record { left = left; faults = faults }

abbrev pub reader_at : {S : Type 0} → (S → Option (List ℕ)) → (S → ℕ) → LineReader S → ReaderAt
reader_at left faults r = reader_from (left_of left r) (faults r.src)

-- the end of input is there
abbrev pub has_ended : {S : Type 0} → (S → Type 0) → LineReader S → Type 0
has_ended ended r = ended r.src

-- ---- lines

abbrev pub newline : ℕ
newline = 10

-- the bytes up to the first newline; all where there is none
abbrev pub first_line : List ℕ → List ℕ
first_line [] = []
first_line (b ∷ bs) = if b == newline then [] else b ∷ first_line bs

-- the bytes after the first newline; none where there is none
abbrev pub after_line : List ℕ → List ℕ
after_line [] = []
after_line (b ∷ bs) = if b == newline then bs else after_line bs

-- a line and one more byte, where it has no more than so many
abbrev pub with_byte : ℕ → List ℕ → ℕ → List ℕ
with_byte most line b = if nat_lt (length line) most then line ++ b ∷ [] else line

-- something was left, the line is the first of that, up to so many bytes of it, and what is left then stands after it
abbrev pub IsNextLine : ℕ → Option (List ℕ) → List ℕ → Option (List ℕ) → Type 0
IsNextLine most old line new = IfSome old (λ bs. (bs ≢ []) × (line ≡ take most (first_line bs))) × (new ≡ option_map after_line old)

-- ---- what is read

-- nothing is left
abbrev pub IsAtEnd : ReaderAt → ReaderAt → Type 0
IsAtEnd old new = IfSome old.left (λ bs. bs ≡ []) × (new.left ≡ old.left) × (new.faults ≡ old.faults)

-- a read failed, which took nothing
abbrev pub HasFailed : ReaderAt → ReaderAt → Type 0
HasFailed old new = (new.left ≡ old.left) × Rose old.faults new.faults

-- a prefix of what was left was taken
abbrev pub IsLeftOf : Option (List ℕ) → Option (List ℕ) → Type 0
IsLeftOf old new = (taken : List ℕ) × (old ≡ put_before taken new)

-- the next line of what is left; the end exactly where nothing is; or a failed read, before which bytes may have come
abbrev pub Reads : ℕ → ReaderAt → Next → ReaderAt → Type 0
Reads most old (Line line) new = IsNextLine most old.left line.items new.left × (new.faults ≡ old.faults)
Reads most old End new = IsAtEnd old new
Reads most old Failed new = IsLeftOf old.left new.left × Rose old.faults new.faults

-- the byte that is taken
abbrev pub Brings : Byte → ReaderAt → ReaderAt → Type 0
Brings (bytes.Is b) old new = (old.left ≡ put_before (b ∷ []) new.left) × (new.faults ≡ old.faults)
Brings bytes.End old new = IsAtEnd old new
Brings bytes.Failed old new = HasFailed old new

-- a read of the source leaves what is left
abbrev pub Refills : Came → ReaderAt → ReaderAt → Type 0
Refills reads.Bytes old new = new ≡ old
Refills reads.Nothing old new = IsAtEnd old new
Refills reads.Failed old new = HasFailed old new

-- bytes that came are there to be taken
abbrev pub HasBytes : Came → ℕ → List ℕ → Type 0
HasBytes reads.Bytes at came = at < length came
HasBytes reads.Nothing at came = ⊤
HasBytes reads.Failed at came = ⊤

-- the end comes with the end of input
abbrev pub EndsWith : Next → Type 0 → Type 0
EndsWith (Line line) ended = ⊤
EndsWith End ended = ended
EndsWith Failed ended = ⊤

abbrev pub BringsEnd : Byte → Type 0 → Type 0
BringsEnd (bytes.Is b) ended = ⊤
BringsEnd bytes.End ended = ended
BringsEnd bytes.Failed ended = ⊤

abbrev pub RefillsEnd : Came → Type 0 → Type 0
RefillsEnd reads.Bytes ended = ⊤
RefillsEnd reads.Nothing ended = ended
RefillsEnd reads.Failed ended = ⊤
