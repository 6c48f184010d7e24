use Rattle.std.proofs.Common.{◌<◌, ℕ, length}
use Rattle.sj_rules.specs.Party.{play_of}
use Rattle.sj_core.specs.NodeWorld.{file_in, nodes_in, world_in}
use Rattle.sj_core.specs.Quiet.{IsIdleAmong}
use Rattle.sj_core.proofs.node_world.NodeWorld.all_idle.Given as goal

-- the parties so far have nothing to do
abbrev pub invariant-loop-party : goal.invariant-loop-party
invariant-loop-party l = (p : ℕ) → p < l.party → IsIdleAmong (play_of (file_in l.self)) (length (nodes_in l.self)) (world_in l.self) p
