use Rattle.std.proofs.Common.{◌≡◌, drop}
use Rattle.sj_acceptance.specs.LabelTests.{is_among}
use Rattle.sj_acceptance.specs.FileTests.{party_names}
use Rattle.sj_check.specs.Views.{parties_of}
use Rattle.sj_check.proofs.files.is_party.Given as goal

abbrev pub invariant-loop-party : goal.invariant-loop-party
invariant-loop-party l = is_among l.name (party_names (parties_of (drop l.party-index l.parties))) ≡ is_among l.name (party_names (parties_of l.parties))
