use Rattle.uses.specs.DequeLanes.{AreOuts}
use Rattle.uses.proofs.deques.outs_of.Given as goal

-- one lane to each party so far
abbrev pub invariant-loop : goal.invariant-loop
invariant-loop l = AreOuts l.counter l.outs
