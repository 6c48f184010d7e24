-- Lines of logs, as the rules have them.
use Rattle.sj_end.specs.declared.note.Event.{Event}
use Rattle.sj_end.specs.declared.note.Event.TheVariants as events
use Rattle.sj_end.specs.declared.note.Note.{Note}
use Rattle.sj_end.specs.declared.note.Note.TheVariants as notes
use Rattle.sj_end.specs.declared.note.Entry.{Entry}
use Rattle.sj_end.specs.declared.note.Line.{Line}
use Rattle.sj_rules.specs.World as rules
use Rattle.sj_rules.specs.Log as log
use Rattle.sj_rules.specs.Log.{NoteAt, EntryAt, LineAt}

-- an act, or whose frame it is that comes
abbrev pub event_at : Event → rules.Event
event_at events.Act = rules.Act
event_at (events.Deliver q) = rules.Deliver q

-- what a note says
abbrev pub note_seen : Note → NoteAt
note_seen notes.Local = log.Local
note_seen (notes.Sent e m) = log.Sent e m
note_seen (notes.Took e m) = log.Took e m
note_seen (notes.Shut e) = log.Shut e
note_seen (notes.Carry to conn number taken msg) = log.Carry to conn number taken msg
note_seen (notes.Fin to conn number) = log.Fin to conn number
note_seen (notes.Claim of) = log.Claim of
note_seen (notes.Signal to conn party taken) = log.Signal to conn party taken
note_seen (notes.Ack of conn) = log.Ack of conn
note_seen (notes.Give of conn peer sent taken base resend) = log.Give of conn peer sent taken base resend
note_seen (notes.Request sess to) = log.Request sess to
note_seen (notes.Accept sess from) = log.Accept sess from
note_seen (notes.Open sess) = log.Open sess

-- an entry, apart from its party
abbrev pub entry_at : Entry → EntryAt
entry_at e = record { clock = e.clock; event = event_at e.event; note = note_seen e.note }

-- an entry with its party
abbrev pub line_at : Line → LineAt
line_at l = record { party = l.party; entry = entry_at l.entry }
