use Rattle.std.proofs.Common.{◌≡◌, map, take}
use Rattle.sj_lang.specs.FileView.{protocol_of}
use Rattle.sj_seat.proofs.kinds.copies_of.Given as goal

abbrev pub invariant-loop-def : goal.invariant-loop-def
invariant-loop-def l = map protocol_of l.defs.items ≡ map protocol_of (take l.def-index l.protocols)
