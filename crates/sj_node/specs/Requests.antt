-- Calls that request a session or accept one: what is noted of them, and which end they open.
use Rattle.std.specs.Prelude.{ℕ, Option, option_map}
use Rattle.sj_base.specs.declared.EndId.{EndId}
use Rattle.sj_rules.specs.Opened.{opened_number, smallest}
use Rattle.sj_rules.specs.Record.{offered_end, requested_end}
use Rattle.sj_end.specs.declared.note.Note.{Note}
use Rattle.sj_end.specs.declared.note.Note.TheVariants as notes
use Rattle.sj_node.specs.declared.node.Node.{Node}
use Rattle.sj_node.specs.Node.{accepted_note, offers_of}

-- what is noted of a request
abbrev pub request_note : Node → (to : ℕ) → Note
request_note n to = notes.Request (opened_number n.party n.requests) to

-- what is noted of an accept
abbrev pub accept_note : Node → (from : ℕ) → Note
accept_note n from = accepted_note from (smallest (offers_of n from))

-- the party's end of the session that it requests next
abbrev pub requested_by : Node → EndId
requested_by n = requested_end (opened_number n.party n.requests)

-- its end of the session that it accepts next: of those that the other one offers the smallest
abbrev pub accepted_by : Node → (from : ℕ) → Option EndId
accepted_by n from = option_map offered_end (smallest (offers_of n from))
