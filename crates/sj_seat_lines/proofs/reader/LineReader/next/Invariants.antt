use Rattle.std.proofs.Common.{◌≡◌, ◌≤◌, length}
use Rattle.sj_seat_lines.specs.Reading.{left_of, reader_at}
use Rattle.sj_seat_lines.proofs.LineLemmas.{IsBegun, IsSoFar}
use Rattle.sj_seat_lines.proofs.reader.LineReader.next.Given as goal

abbrev pub invariant-loop : goal.invariant-loop
invariant-loop g l = record {
  within : length l.line.items ≤ l.most;
  so_far : IsSoFar l.most (left_of g.S.Source.left l.fn.self) l.line.items (left_of g.S.Source.left l.self);
  begun : IsBegun l.begun (left_of g.S.Source.left l.fn.self) (left_of g.S.Source.left l.self);
  faults : (reader_at g.S.Source.left g.S.Source.faults l.self).faults ≡ (reader_at g.S.Source.left g.S.Source.faults l.fn.self).faults;
}
