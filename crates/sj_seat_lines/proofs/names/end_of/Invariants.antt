use Rattle.std.proofs.Common.{◌≡◌, drop}
use Rattle.sj_seat_lines.specs.Names.{named}
use Rattle.sj_talk.specs.Names.{end_named}
use Rattle.sj_seat_lines.proofs.names.end_of.Given as goal

abbrev pub invariant-loop-own : goal.invariant-loop-own
invariant-loop-own l = end_named (named (drop l.own-index l.names)) l.name ≡ end_named (named l.names) l.name
