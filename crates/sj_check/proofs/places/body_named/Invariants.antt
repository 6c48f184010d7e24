use Rattle.std.proofs.Common.{◌≡◌, drop}
use Rattle.sj_lang.specs.FileAt.{protocol_named}
use Rattle.sj_check.specs.Views.{protocols_of}
use Rattle.sj_check.proofs.places.body_named.Given as goal

abbrev pub invariant-loop-protocol : goal.invariant-loop-protocol
invariant-loop-protocol l = protocol_named (protocols_of (drop l.protocol-index l.protocols)) l.name ≡ protocol_named (protocols_of l.protocols) l.name
