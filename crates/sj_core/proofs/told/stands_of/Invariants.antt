use Rattle.std.proofs.Common.{◌≡◌, ◌++◌, drop, map}
use Rattle.sj_core.specs.ToldWorld.{stand_seen}
use Rattle.sj_core.proofs.told.stands_of.Given as goal

-- those so far, and those of the nodes that are left
abbrev pub invariant-loop-node : goal.invariant-loop-node
invariant-loop-node l = l.stands.items ++ map stand_seen (drop l.node-index l.nodes) ≡ map stand_seen l.nodes
