use Rattle.std.proofs.Common.{◌-◌, ◌≤◌, length}
use Rattle.sj_lang.specs.FileView.{file_of}
use Rattle.sj_forward.specs.Starting.{AreFirstRows}
use Rattle.sj_forward.proofs.starts.first_rows.Given as goal

-- the slots of the connections so far
abbrev pub invariant-loop-at : goal.invariant-loop-at
invariant-loop-at l = record {
  within : l.at ≤ length l.file.connects.items;
  so_far : AreFirstRows (file_of l.file) l.party l.at l.rows.items;
}

abbrev pub decreases-loop-at : goal.decreases-loop-at
decreases-loop-at l = length l.file.connects.items - l.at
