use Rattle.std.proofs.Common.{◌≡◌, drop, map}
use Rattle.sj_forest_laws.specs.Opens.{first_line, openings_of}
use Rattle.sj_lang.specs.FileView.{party_of}
use Rattle.sj_forest.proofs.openings.first_opening.Given as goal

-- the first of those that are left is the first of all
abbrev pub invariant-loop-party : goal.invariant-loop-party
invariant-loop-party l = first_line (openings_of (map party_of (drop l.party-index l.file.parties.items))) ≡ first_line (openings_of (map party_of l.file.parties.items))
