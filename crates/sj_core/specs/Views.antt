-- Entries of the program as lines, and as lines of the rules.
use Rattle.std.specs.Prelude.{ℕ}
use Rattle.sj_end.specs.declared.note.Entry.{Entry}
use Rattle.sj_end.specs.declared.note.Line.{Line}
use Rattle.sj_rules.specs.Log.{LineAt}
pub use Rattle.sj_end.specs.Lines.{event_at, note_seen, entry_at, line_at}

-- a party's entry as a line
abbrev pub line_of : ℕ → Entry → Line
line_of p e = record { party = p; entry = e }

-- that line as the rules have it
abbrev pub line_with : ℕ → Entry → LineAt
line_with p e = line_at (line_of p e)
