-- How often a worker looked for what comes.
use Rattle.std.specs.Prelude.{◌≡◌, ℕ}
use Rattle.sj_lane.specs.declared.lane.InLane.{Ghosts as InLane}
use Rattle.sj_node.specs.Node.{clock_of}
use Rattle.sj_work.specs.Views.{node_of}
use Rattle.sj_work.specs.Went.{InVain}
use Rattle.sj_work.specs.declared.worker.Worker.{Worker}

-- it looked at the lane from each party in vain, so many times at least, unless something happened meanwhile
abbrev pub LookedAt : {O I : Type 0} → InLane I → (times : ℕ) → (old new : Worker O I) → Type 0
LookedAt inward times old new = clock_of (node_of new) ≡ clock_of (node_of old) → InVain inward.vain times old new
