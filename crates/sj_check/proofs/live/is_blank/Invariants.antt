use Rattle.std.proofs.Common.{◌≡◌, drop}
use Rattle.sj_check.specs.Table.{is_blank}
use Rattle.sj_check.proofs.live.is_blank.Given as goal

abbrev pub invariant-loop-spot : goal.invariant-loop-spot
invariant-loop-spot l = is_blank (drop l.spot-index l.table) ≡ is_blank l.table
