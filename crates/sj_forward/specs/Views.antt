-- Messages, frames and records of the program, as the rules see them.
use Rattle.std.specs.Prelude.{ℕ, map, length, slice_get, Option, option_map}
use Rattle.sj_forward.specs.declared.frame.Sent.{Sent}
use Rattle.sj_forward.specs.declared.frame.ForwardFrame.{ForwardFrame}
use Rattle.sj_forward.specs.declared.frame.ForwardFrame.TheVariants as frames
use Rattle.sj_forward.specs.declared.records.Kind.{Kind}
use Rattle.sj_forward.specs.declared.records.Kind.TheVariants as kinds
use Rattle.sj_forward.specs.declared.records.Record.{Record}
use Rattle.sj_forward.specs.declared.records.Seen.{Seen}
use Rattle.sj_forward.specs.declared.records.Stand.{Stand}
use Rattle.sj_forward.specs.declared.records.Stand.TheVariants as stands
use Rattle.sj_forward.specs.declared.records.Use.{Use}
use Rattle.sj_forward_rules.specs.Node.{HeldAt}
use Rattle.sj_forward_rules.specs.Record.{SentAt, StateAt, Held, Parked, Passing, Closed, RecordAt, FrameAt, In, Out, Claim, Open}

abbrev pub sent_at : Sent → SentAt
sent_at s = record { msg = s.msg; hop = s.hop }

-- the message of the program that is seen so
abbrev pub sent_of : SentAt → Sent
sent_of s = record { msg = s.msg; hop = s.hop }

abbrev pub frame_at : ForwardFrame → FrameAt
frame_at (frames.In e h s) = In e h (sent_at s)
frame_at (frames.Out e h s) = Out e h (sent_at s)
frame_at (frames.Claim e h) = Claim e h
frame_at (frames.Open sess) = Open sess

abbrev pub stand_at : Stand → StateAt
stand_at (stands.Held ms) = Held (map sent_at ms.items)
stand_at (stands.Parked ms) = Parked (map sent_at ms.items)
stand_at (stands.Passing p) = Passing p
stand_at stands.Closed = Closed

abbrev pub record_at : Record → RecordAt
record_at r = record { behind = r.behind; state = stand_at r.stand }

-- what is reported of a record: how it stands, and how many messages wait at a Parked one
abbrev pub kind_of : StateAt → Kind
kind_of (Held ms) = kinds.Held
kind_of (Parked ms) = kinds.Parked (length ms)
kind_of (Passing p) = kinds.Passing p
kind_of Closed = kinds.Closed

abbrev pub seen_of : RecordAt → Seen
seen_of r = record { behind = r.behind; kind = kind_of r.state }

-- what is reported of an end in use
abbrev pub use_of : HeldAt → Use
use_of h = record { hop = h.hop; behind = h.behind; first = option_map sent_of (slice_get h.untaken 0) }
