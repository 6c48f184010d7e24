-- The version of a log, and the line that stands before a log of that version.
use Rattle.std.specs.Prelude.{◌≡◌, ◌⊎◌, ℕ, nat_lt, Bool, true, false, if◌then◌else◌, List, codes}
use Rattle.std.specs.List.{list_any}
use Rattle.sj_rules.specs.Log.{NoteAt, LineAt, Request, Accept, Open}

abbrev pub IsVersion : ℕ → Type 0
IsVersion v = (v ≡ 1) ⊎ (v ≡ 2)

-- a log of that version may report sessions that are opened at run time
abbrev pub knows_openings : ℕ → Bool
knows_openings v = nat_lt 1 v

-- the line before a log of that version
abbrev pub mark_of : ℕ → List ℕ
mark_of v = if knows_openings v then codes "%%log2\n" else codes "%%log\n"

-- a session is opened or accepted, or comes
abbrev pub is_opening : NoteAt → Bool
is_opening (Request sess to) = true
is_opening (Accept sess from) = true
is_opening (Open sess) = true
is_opening _ = false

-- the version of a log of these lines: the least that has their forms
abbrev pub version_of : List LineAt → ℕ
version_of lines = if list_any (λ l. is_opening l.entry.note) lines then 2 else 1
