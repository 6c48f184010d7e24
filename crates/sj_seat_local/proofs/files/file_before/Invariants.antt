use Rattle.std.proofs.Common.{◌≡◌, ◌≤◌, length}
use Rattle.sj_lang.specs.Limits.{file_limit}
use Rattle.sj_seat_lines.specs.Reading.{reader_at}
use Rattle.sj_seat_local.proofs.BeforeLemmas.{IsSoFar}
use Rattle.sj_seat_local.proofs.files.file_before.Given as goal

abbrev pub invariant-loop : goal.invariant-loop
invariant-loop g l = record {
  so_far : IsSoFar (reader_at g.S.Source.left g.S.Source.faults l.fn.lines).left l.bytes.items (reader_at g.S.Source.left g.S.Source.faults l.lines).left;
  faults : (reader_at g.S.Source.left g.S.Source.faults l.lines).faults ≡ (reader_at g.S.Source.left g.S.Source.faults l.fn.lines).faults;
  some : l.counter ≤ length l.bytes.items;
  few : length l.bytes.items ≤ file_limit;
}
