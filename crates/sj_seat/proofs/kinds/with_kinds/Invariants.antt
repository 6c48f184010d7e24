use Rattle.sj_seat.specs.Kinds.{AreNamedAlike}
use Rattle.sj_seat.proofs.kinds.with_kinds.Given as goal

abbrev pub invariant-loop-def : goal.invariant-loop-def
invariant-loop-def l = AreNamedAlike l.protocols l.defs.items
