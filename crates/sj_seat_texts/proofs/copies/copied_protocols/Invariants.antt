use Rattle.std.proofs.Common.{◌≡◌, map, take}
use Rattle.sj_lang.specs.FileView.{protocol_of}
use Rattle.sj_seat_texts.proofs.copies.copied_protocols.Given as goal

abbrev pub invariant-loop-protocol : goal.invariant-loop-protocol
invariant-loop-protocol l = map protocol_of l.out.items ≡ map protocol_of (take l.protocol-index l.protocols)
