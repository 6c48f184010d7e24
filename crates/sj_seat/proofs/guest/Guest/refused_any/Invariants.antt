use Rattle.std.proofs.Common.{◌≡◌, drop}
use Rattle.sj_seat.specs.Ready.{any_rule}
use Rattle.sj_seat.proofs.guest.Guest.refused_any.Given as goal

abbrev pub invariant-loop-end : goal.invariant-loop-end
invariant-loop-end g l = any_rule l.self (drop l.end-index l.ends) ≡ any_rule l.self l.ends
