-- The limits of the core's numbers.
use Rattle.std.specs.Prelude.{ℕ}
use Rattle.sj_lang.specs.Limits.{limits}
pub use Rattle.sj_semantics.specs.Program.{limit_of_steps}
pub use Rattle.sj_semantics.specs.Ends.{limit_of_hops}
pub use Rattle.sj_semantics.specs.Requests.{limit_of_requests}

-- a connection number is at most this; an end that has it is delegated no more
abbrev pub limit_of_conns : ℕ
limit_of_conns = 1000

-- the first number of a session that is opened at run time; those of connections are smaller
abbrev pub first_opened : ℕ
first_opened = limits.connects

-- a message number, a sent count and a taken count in a frame are at most this
abbrev pub limit_of_messages : ℕ
limit_of_messages = 1000000

-- the clock of a frame is below 2^62
abbrev pub clock_end : ℕ
clock_end = 4611686018427387904
