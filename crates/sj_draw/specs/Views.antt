-- How lines, and what is gathered of them, look to definitions.
use Rattle.std.specs.Prelude.{map}
use Rattle.std.specs.Option.{option_map}
use Rattle.sj_draw.specs.declared.chart.Arrow.{Arrow}
use Rattle.sj_draw.specs.declared.chart.Chart.{Chart}
use Rattle.sj_draw.specs.Chart.{ArrowAt, ChartAt}
use Rattle.sj_draw.specs.declared.lines.Line.{Line}
use Rattle.sj_draw.specs.declared.lines.Line.TheVariants as lines
use Rattle.sj_draw.specs.declared.lines.Session.{Session as SessionLine}
use Rattle.sj_draw.specs.declared.lines.Passed.{Passed}
use Rattle.sj_draw.specs.Lines.{SessionAt, PassedAt, DrawnLineAt, Session, Opened, Party, Message, Delivery, Log, Verdict}

abbrev pub session_at : SessionLine → SessionAt
session_at s = record {
  number = s.number.now;
  first_party = s.first_party.now;
  first_end = s.first_end.now;
  second_party = s.second_party.now;
  second_end = s.second_end.now;
}

abbrev pub passed_at : Passed → PassedAt
passed_at p = record { mark = p.mark; from = p.from.now; to = option_map (λ t. t.now) p.to; end = p.end.now; first = p.first; text = p.text.now }

abbrev pub drawn_line_at : Line → DrawnLineAt
drawn_line_at (lines.Session s) = Session (session_at s)
drawn_line_at (lines.Opened s) = Opened (session_at s)
drawn_line_at (lines.Party name) = Party name.now
drawn_line_at (lines.Message p) = Message (passed_at p)
drawn_line_at (lines.Delivery p) = Delivery (passed_at p)
drawn_line_at lines.Log = Log
drawn_line_at lines.Verdict = Verdict

abbrev pub arrow_at : Arrow → ArrowAt
arrow_at a = record { mark = a.mark; from = a.from; to = a.to; name = a.name.now; text = a.text.now }

abbrev pub chart_at : Chart → ChartAt
chart_at f = record {
  parties = map (λ p. p.now) f.parties.items;
  sessions = map session_at f.sessions.items;
  arrows = map arrow_at f.arrows.items;
  names = f.names;
  texts = f.texts;
  hooks = f.hooks;
}
