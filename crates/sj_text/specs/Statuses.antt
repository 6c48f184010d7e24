-- The statuses of a program whose text doesn't say what came of its input.
use Rattle.std.specs.Prelude.{◌≡◌, ◌⊎◌, ℕ}

-- a read failed
abbrev pub read_fault_status : ℕ
read_fault_status = 2

-- more bytes came than an input may have
abbrev pub too_large_status : ℕ
too_large_status = 3

-- a write failed
abbrev pub write_fault_status : ℕ
write_fault_status = 10

-- there was no memory
abbrev pub no_memory_status : ℕ
no_memory_status = 11

-- it holds, unless a write failed or there was no memory
abbrev pub OrYields : ℕ → Type 0 → Type 0
OrYields status P = P ⊎ ((status ≡ write_fault_status) ⊎ (status ≡ no_memory_status))
