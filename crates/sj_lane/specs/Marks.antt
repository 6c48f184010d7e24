-- The fields that a lane in memory keeps of a frame, as lanes report frames.
use Rattle.std.specs.Prelude.{List, map}
use Rattle.sj_lang.specs.Place.{Place, done}
use Rattle.sj_rules.specs.Record as rules
use Rattle.sj_rules.specs.Record.{EndAt, BodyAt}
use Rattle.sj_rules.specs.Frames.{FrameAt}
use Rattle.sj_lane.specs.declared.marks.EndFields.{EndFields}
use Rattle.sj_lane.specs.declared.marks.BodyFields.{BodyFields}
use Rattle.sj_lane.specs.declared.marks.BodyFields.TheVariants as marks
use Rattle.sj_lane.specs.declared.marks.FrameFields.{FrameFields}

-- an end, with the empty place
abbrev pub end_marked : EndFields → EndAt Place
end_marked e = record {
  id = e.id;
  place = done;
  conn = e.conn;
  peer = e.peer;
  sent = e.sent;
  taken = e.taken;
  base = e.base;
  cache = e.cache.items;
  hops = e.hops;
}

-- a body
abbrev pub body_marked : BodyFields → BodyAt Place
body_marked (marks.Carry to conn number taken msg) = rules.Carry to conn number taken msg
body_marked (marks.Fin to conn number) = rules.Fin to conn number
body_marked (marks.Claim of) = rules.Claim of
body_marked (marks.Signal to conn party taken) = rules.Signal to conn party taken
body_marked (marks.Ack of conn) = rules.Ack of conn
body_marked (marks.Give end resend) = rules.Give (end_marked end) resend
body_marked (marks.Open sess) = rules.Open sess

-- a frame
abbrev pub mark_at : FrameFields → FrameAt Place
mark_at m = record { clock = m.clock; body = body_marked m.body }

-- all of them, in order
abbrev pub marks_at : List FrameFields → List (FrameAt Place)
marks_at ms = map mark_at ms
