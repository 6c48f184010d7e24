use Rattle.std.proofs.Common.{◌≡◌, ◌++◌, ◌-◌, ◌≤◌, drop, length, map}
use Rattle.sj_lang.specs.FileAt.{ends_from}
use Rattle.sj_lang.specs.FileView.{connect_of, file_of}
use Rattle.sj_seat_lines.proofs.starts.numbered_ends.Given as goal

abbrev pub invariant-loop-at : goal.invariant-loop-at
invariant-loop-at l = record {
  within : l.at ≤ length l.file.connects.items;
  so_far : l.ends.items ++ ends_from (file_of l.file) l.party l.at (map connect_of (drop l.at l.file.connects.items)) ≡ ends_from (file_of l.file) l.party 0 (map connect_of l.file.connects.items);
}

abbrev pub decreases-loop-at : goal.decreases-loop-at
decreases-loop-at l = length l.file.connects.items - l.at
