use Rattle.std.proofs.Common.{take}
use Rattle.sj_check.specs.Held.{file_in as held}
use Rattle.sj_lang.specs.FileView.{file_of}
use Rattle.sj_seats.specs.Beginning.{AreBegun}
use Rattle.sj_seats.proofs.played.PlayedWorld.begin.Given as goal

abbrev pub invariant-loop-party : goal.invariant-loop-party
invariant-loop-party l = AreBegun (file_of (held l.fn.accepted)) l.fn.table (take l.party l.fn.seats) l.nodes.items l.chairs.items
