use Rattle.std.proofs.Common.{◌≡◌, drop}
use Rattle.sj_acceptance.specs.FileTests.{at_start}
use Rattle.sj_check.specs.Seen.{defs_in, env_in}
use Rattle.sj_check.specs.Views.{connects_of}
use Rattle.sj_check.proofs.ends.at_start.Given as goal

-- the ends of the connections from there on are bound
abbrev pub invariant-loop-i : goal.invariant-loop-i
invariant-loop-i l = env_in l.protocols l.env ≡ at_start (defs_in l.protocols) (connects_of (drop l.i l.connects)) l.party

abbrev pub decreases-loop-i : goal.decreases-loop-i
decreases-loop-i l = l.i
