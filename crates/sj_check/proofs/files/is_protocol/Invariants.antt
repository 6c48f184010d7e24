use Rattle.std.proofs.Common.{◌≡◌, drop}
use Rattle.sj_acceptance.specs.LabelTests.{is_among}
use Rattle.sj_acceptance.specs.FileTests.{protocol_names}
use Rattle.sj_check.specs.Views.{protocols_of}
use Rattle.sj_check.proofs.files.is_protocol.Given as goal

abbrev pub invariant-loop-protocol : goal.invariant-loop-protocol
invariant-loop-protocol l = is_among l.name (protocol_names (protocols_of (drop l.protocol-index l.protocols))) ≡ is_among l.name (protocol_names (protocols_of l.protocols))
