-- The numbers of the wire format.
use Rattle.std.specs.Prelude.{ℕ, ◌-◌}
use Rattle.sj_table.specs.declared.table.Spot.{Spot}
pub use Rattle.sj_rules.specs.Limits.{limit_of_conns, limit_of_messages, limit_of_hops}
use Rattle.sj_rules.specs.Limits.{clock_end}

-- the version byte of all kinds but Open
abbrev pub version : ℕ
version = 1

-- and that of an Open
abbrev pub open_version : ℕ
open_version = 2

-- what follows the length of a frame is at least this long: a Claim, an Open
abbrev pub least_length : ℕ
least_length = 15

-- and at most this long
abbrev pub most_length : ℕ
most_length = 2097152

-- the clock of a frame is at most this: it is below 2^62
abbrev pub last_clock : ℕ
last_clock = clock_end - 1

-- a Give has at most so many cached messages
abbrev pub most_cached : ℕ
most_cached = 200000

-- the place of an end that was read, which is the empty one
abbrev pub nowhere : Spot
nowhere = record { node = 0 }
