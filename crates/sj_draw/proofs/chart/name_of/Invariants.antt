use Rattle.std.proofs.Common.{◌≡◌, map, drop}
use Rattle.sj_draw.specs.Chart.{name_of}
use Rattle.sj_draw.specs.Views.{session_at}
use Rattle.sj_draw.proofs.chart.name_of.Given as goal

-- the name is that of a session that is left, or of none
abbrev pub invariant-loop-session : goal.invariant-loop-session
invariant-loop-session l = name_of (map session_at l.sessions) l.end l.first ≡ name_of (map session_at (drop l.session-index l.sessions)) l.end l.first
