use Rattle.std.proofs.Common.{◌≡◌, length}
use Rattle.sj_seat_lines.specs.Names.{ends_under, named}
use Rattle.sj_seat_lines.proofs.NameLemmas.{after}
use Rattle.sj_seat_lines.proofs.names.ends_of.Given as goal

abbrev pub invariant-loop-left : goal.invariant-loop-left
invariant-loop-left l = after l.ends.items (ends_under (named l.names) l.left) ≡ ends_under (named l.names) l.fn.wanted

abbrev pub decreases-loop-left : goal.decreases-loop-left
decreases-loop-left l = length l.left
