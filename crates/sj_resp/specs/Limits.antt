-- The bounds of what is read.
use Rattle.std.specs.Prelude.{ℕ, ◌^◌, ◌-◌}

-- the most bytes of a line
abbrev pub longest_line : ℕ
longest_line = 65536

-- the greatest length of a bulk, in bytes
abbrev pub most_bytes : ℕ
most_bytes = 67108864

-- the most parts of an array
abbrev pub most_parts : ℕ
most_parts = 16777216

-- integers have 64 bits and a sign
abbrev pub last_int : ℕ
last_int = 2 ^ 63 - 1
