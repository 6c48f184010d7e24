-- Bytes that the protocol gives a meaning.
use Rattle.std.specs.Prelude.{ℕ}

-- a line ends with these two
abbrev pub carriage_return : ℕ
carriage_return = 13

abbrev pub newline : ℕ
newline = 10

-- `+`, before a line that says how it went
abbrev pub plus : ℕ
plus = 43

-- `-`, before a line that says why it failed, and before a negative number
abbrev pub minus : ℕ
minus = 45

-- `:`, before an integer
abbrev pub colon : ℕ
colon = 58

-- `$`, before the length of a bulk
abbrev pub dollar : ℕ
dollar = 36
