use Rattle.std.proofs.Common.{◌≡◌, ◌++◌, drop, length}
use Rattle.sj_check.specs.Held.{file_in}
use Rattle.sj_lang.specs.FileView.{file_of}
use Rattle.sj_seat_run.specs.Runners.{AreSeated}
use Rattle.sj_seat_run.specs.Seats.{seats_by}
use Rattle.sj_seat_run.proofs.hires.take_seats.Given as goal

-- the parties so far, and the lanes and codes that are left
abbrev pub invariant-loop-own : goal.invariant-loop-own
invariant-loop-own g l = record {
  number : l.party ≡ length l.yielded;
  left : l.yielded ++ l.own-iterator.rest.items ≡ l.fn.lanes.items;
  codes : l.codes.rest.items ≡ drop (length l.yielded) l.fn.codes.items;
  seated : AreSeated (file_of (file_in l.accepted)) l.table (seats_by l.fn.codes.items) l.yielded (length l.yielded) l.runners.items;
}
