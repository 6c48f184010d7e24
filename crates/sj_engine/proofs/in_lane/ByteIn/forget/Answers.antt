use Rattle.std.proofs.Common.{◌≡◌, drop, ◌∙◌, arith}
use Rattle.std.proofs.lemmas.Grind.{common_steps}
use Rattle.sj_engine.proofs.FrameLemmas.{none_in}
use Rattle.sj_engine.proofs.in_lane.ByteIn.forget.Goals as goal

pub invariant_of-self : goal.invariant_of-self
invariant_of-self c =
    let left : drop c.args.self.now.used c.args.self.now.bytes.items ≡ c.truncate.new.self.items = grind (arith, common_steps) in
    record { within = omega arith; left = c.args.self.now.left ∙ left; broken = c.args.self.now.broken; whole = none_in.1; spelt = none_in.2 }
