use Rattle.std.proofs.Common.{◌*◌}
use Rattle.sj_told.specs.Lines.{AreEmpty}
use Rattle.sj_told.proofs.ends.empty_ends.Given as goal

-- two for each connection so far
abbrev pub invariant-loop-sess : goal.invariant-loop-sess
invariant-loop-sess l = AreEmpty (2 * l.sess) l.ends.items
