use Rattle.std.proofs.Common.{◌≡◌, ◌+◌, ◌-◌, ◌≤◌, drop, length}
use Rattle.sj_lang.specs.FileAt.{number_of_name}
use Rattle.sj_machine.proofs.needs.number_named.Given as goal

abbrev pub invariant-loop-at : goal.invariant-loop-at
invariant-loop-at l = record {
  within : l.at ≤ length l.peers;
  so_far : number_of_name l.peers l.name ≡ l.at + number_of_name (drop l.at l.peers) l.name;
}

abbrev pub decreases-loop-at : goal.decreases-loop-at
decreases-loop-at l = length l.peers - l.at
