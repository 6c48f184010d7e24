use Rattle.std.proofs.Common.{◌≡◌, ◌+◌, ◌-◌, ◌≤◌, drop, length, map}
use Rattle.sj_lang.specs.FileAt.{party_named}
use Rattle.sj_lang.specs.FileView.{party_of}
use Rattle.sj_machine.proofs.starts.party_of_name.Given as goal

abbrev pub invariant-loop-at : goal.invariant-loop-at
invariant-loop-at l = record {
  within : l.at ≤ length l.parties;
  so_far : party_named (map party_of l.parties) l.name ≡ l.at + party_named (map party_of (drop l.at l.parties)) l.name;
}

abbrev pub decreases-loop-at : goal.decreases-loop-at
decreases-loop-at l = length l.parties - l.at
