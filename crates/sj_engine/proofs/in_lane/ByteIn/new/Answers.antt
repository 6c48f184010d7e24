use Rattle.std.proofs.Common.{arith, rules}
use Rattle.sj_engine.proofs.FrameLemmas.{none_in}
use Rattle.sj_engine.proofs.in_lane.ByteIn.new.Goals as goal

pub invariant_of-result : goal.invariant_of-result
invariant_of-result c = record { within = omega arith; left = search rules; broken = λ some. absurd (omega (arith, some)); whole = none_in.1; spelt = none_in.2 }
