use Rattle.std.proofs.Common.{◌≡◌, ◌<◌, ℕ, []}
use Rattle.sj_core.specs.NodeWorld.{world_in}
use Rattle.sj_core.proofs.node_world.NodeWorld.is_idle.Given as goal

-- the lanes so far are empty
abbrev pub invariant-loop-from : goal.invariant-loop-from
invariant-loop-from l = (q : ℕ) → q < l.from → (world_in l.self).lanes q l.party ≡ []
