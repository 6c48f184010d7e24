use Rattle.std.proofs.Common.{None}
use Rattle.sj_seat_lines.specs.Lines.{Goes, lines_at}
use Rattle.sj_seat_lines.specs.Party.{seat_at}
use Rattle.sj_seat_lines.proofs.lines.Lines.read_on.Given as goal

abbrev pub invariant-loop : goal.invariant-loop
invariant-loop g l = Goes (seat_at l.seat) (lines_at g.S.Source.left g.K.Sink.written l.fn.self) None (lines_at g.S.Source.left g.K.Sink.written l.self)
