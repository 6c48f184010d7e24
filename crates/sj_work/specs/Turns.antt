-- The pieces of a turn.
use Rattle.std.specs.Prelude.{◌≡◌, ◌↔◌, ℕ, ⊤, [], Option, Some, None}
use Rattle.sj_lane.specs.declared.lane.OutLane.{Ghosts as OutLane}
use Rattle.sj_lane.specs.declared.lane.InLane.{Ghosts as InLane}
use Rattle.sj_node.specs.declared.refusal.Halt.{Halt}
use Rattle.sj_node.specs.declared.refusal.Halt.TheVariants as halts
use Rattle.sj_node.specs.Node as nodes
use Rattle.sj_node.specs.Node.{outbox_of}
use Rattle.sj_node.specs.Reading.{IsFinished}
use Rattle.sj_work.specs.declared.worker.Stop.TheVariants as stops
use Rattle.sj_work.specs.declared.worker.Worker.{Worker}
use Rattle.sj_work.specs.Counts.{OnLane, RoseBy}
use Rattle.sj_work.specs.Views.{node_of, out_of, stop_of}
use Rattle.sj_work.specs.Went.{HasNoEvent, InVain, OutVain}
use Rattle.sj_work.specs.Worked.{Turned}

-- the party can't act, and not because it is out of memory
abbrev pub IsHalted : Option Halt → Type 0
IsHalted (Some halts.Ended) = ⊤
IsHalted (Some halts.Waits) = ⊤
IsHalted (Some halts.AtLimit) = ⊤
IsHalted (Some halts.NoMemory) = ⊥
IsHalted (Some halts.Unfit) = ⊥
IsHalted None = ⊥

module _ {O I : Type 0} where
  -- a worker stops as finished exactly where its node is so
  abbrev pub IsSettled : Worker O I → Type 0
  IsSettled w = (stop_of w ≡ Some stops.Finished) ↔ IsFinished (node_of w)

  -- it hasn't stopped, and its node isn't finished
  pub record IsGoing (w : Worker O I) : Type 0 where
    pub stop : stop_of w ≡ None
    pub open_yet : IsFinished (node_of w) → ⊥

  -- the outbox for that party is empty, or its lane took nothing, or there is no lane
  abbrev pub Tried : (out_vain : O → ℕ) → ℕ → (old new : Worker O I) → Type 0
  Tried out_vain q old new = (outbox_of (node_of new) q ≡ [] → ⊥) → OnLane out_vain (RoseBy 1) (out_of old q) (out_of new q)

module _ {O I : Type 0} (outward : OutLane O) (inward : InLane I) where
  -- a piece of a turn, whatever the number of looks
  abbrev pub Turns : (old new : Worker O I) → Type 0
  Turns old new = (looks : ℕ) → Turned outward inward looks old new

module _ {O I : Type 0} (out_vain : O → ℕ) (in_vain : I → ℕ) where
  -- a turn without an event, after which the party can't act
  pub record IsInVain (old new : Worker O I) : Type 0 where
    pub rests : HasNoEvent (node_of old) (node_of new)
    pub ins : InVain in_vain 1 old new
    pub outs : OutVain out_vain 1 old new
    pub halted : IsHalted (nodes.node_halt (node_of new))
