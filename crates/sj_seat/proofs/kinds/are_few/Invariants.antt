use Rattle.std.proofs.Common.{◌≡◌, ◌+◌, drop, map}
use Rattle.sj_lang.specs.FileView.{protocol_of}
use Rattle.sj_table.specs.Nodes.{nodes_of}
use Rattle.sj_seat.proofs.kinds.are_few.Given as goal

abbrev pub invariant-loop-def : goal.invariant-loop-def
invariant-loop-def l = l.left + nodes_of (map protocol_of l.defs) ≡ 4294967294 + nodes_of (map protocol_of (drop l.def-index l.defs))
