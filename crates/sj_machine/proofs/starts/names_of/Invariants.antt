use Rattle.std.proofs.Common.{◌≡◌, ◌++◌, drop, map}
use Rattle.sj_lang.specs.FileAt.{party_names}
use Rattle.sj_lang.specs.FileView.{party_of}
use Rattle.sj_machine.proofs.starts.names_of.Given as goal

abbrev pub invariant-loop-party : goal.invariant-loop-party
invariant-loop-party l = l.names.items ++ party_names (map party_of (drop l.party-index l.parties)) ≡ party_names (map party_of l.parties)
