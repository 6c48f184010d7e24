use Rattle.std.proofs.Common.{◌≡◌, drop}
use Rattle.sj_seat_lines.specs.Names.{name_in, named}
use Rattle.sj_seat_lines.proofs.names.name_of.Given as goal

abbrev pub invariant-loop-own : goal.invariant-loop-own
invariant-loop-own l = name_in (named (drop l.own-index l.names)) l.end ≡ name_in (named l.names) l.end
