-- A line from its parts.
use Rattle.std.specs.Prelude.{ℕ}
use Rattle.sj_end.specs.declared.note.Event.{Event}
use Rattle.sj_end.specs.declared.note.Note.{Note}
use Rattle.sj_end.specs.declared.note.Line.{Line}

-- a line from its clock, its party and its event
abbrev pub line_from : ℕ × (ℕ × (Event × Note)) → Line
line_from x = record { party = x.1.0; entry = record { clock = x.0; event = x.1.1.0; note = x.1.1.1 } }
