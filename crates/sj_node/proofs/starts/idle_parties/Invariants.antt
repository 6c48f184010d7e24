use Rattle.std.proofs.Common.{◌≡◌, ◌++◌, drop, map}
use Rattle.sj_lang.specs.FileView.{party_of}
use Rattle.sj_node.specs.Starting.{idle_parties}
use Rattle.sj_node.proofs.starts.idle_parties.Given as goal

abbrev pub invariant-loop-party : goal.invariant-loop-party
invariant-loop-party l = map party_of l.out.items ++ idle_parties (map party_of (drop l.party-index l.parties)) ≡ idle_parties (map party_of l.parties)
