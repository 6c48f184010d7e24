-- What waits on links, put before the outboxes of the nodes of parties.
use Rattle.std.specs.Prelude.{◌≡◌, ℕ, ◌<◌, ◌≤◌, List, [], ◌++◌, map, length, slice_get, Option, Some}
use Rattle.sj_lang.specs.FileAt.{FileAt, body_named}
use Rattle.sj_lang.specs.Place.{Place}
use Rattle.sj_end.specs.declared.frames.Frame.{Frame}
use Rattle.sj_end.specs.Views.{frame_at}
use Rattle.sj_lane.specs.declared.lane.Lanes.{Lanes}
use Rattle.sj_lane.specs.declared.lane.OutLane.{Ghosts as OutLane}
use Rattle.sj_lane.specs.declared.lane.InLane.{Ghosts as InLane}
use Rattle.sj_lane.specs.Square.{AllJoined, IsRest, IsSquare, NoneFell, SameLists}
use Rattle.sj_node.specs.declared.node.Node.{Node}
use Rattle.sj_node.specs.Gives.{HasNoGive}
use Rattle.sj_node.specs.Node.{connect_count, log_of}
use Rattle.sj_node.specs.Outs.{waiting_in}
use Rattle.sj_node.specs.Reading.{TakesEntry, TakesOut, outs_of, table_of}
use Rattle.sj_rules.specs.Frames.{FrameAt}
use Rattle.sj_table.specs.declared.table.Table.{Table}
use Rattle.sj_table.specs.Spots.{start_in}
use Rattle.sj_work.specs.declared.worker.Worker.{Worker}
use Rattle.sj_work.specs.Views.{node_of}

-- the nodes of the workers, without their logs
pub record AreLogless {O I : Type 0} (workers : List (Worker O I)) (nodes : List Node) : Type 0 where
  pub count : length nodes ≡ length workers
  pub each : (p : ℕ) (n : Node) → slice_get nodes p ≡ Some n → (w : Worker O I) × (slice_get workers p ≡ Some w) × TakesEntry (node_of w) n × (log_of n ≡ [])

module _ {O I : Type 0} (pushed : O → Option (List (FrameAt Place))) (popped : I → Option (List (FrameAt Place))) (lanes : List (Lanes O I)) where
  -- what waits on the link from p to q stands before the outbox for q
  pub record HasTaken (p q : ℕ) (old new : Node) : Type 0 where
    pub frames : List Frame
    pub rest : IsRest pushed popped lanes p q frames
    pub waits : waiting_in (outs_of new) q ≡ map frame_at frames ++ waiting_in (outs_of old) q

  -- so it is for each party, and no Give is among it
  pub record IsHandedIn (p : ℕ) (old new : Node) : Type 0 where
    pub same : TakesOut old new
    pub taken : (q : ℕ) → q < length lanes → HasTaken p q old new
    pub beyond : (q : ℕ) → length lanes ≤ q → waiting_in (outs_of new) q ≡ waiting_in (outs_of old) q
    pub plain : (q : ℕ) → HasNoGive (waiting_in (outs_of new) q)

  -- so it is for all nodes
  pub record AreHandedIn (old new : List Node) : Type 0 where
    pub count : length new ≡ length old
    pub each : (p : ℕ) (m : Node) → slice_get new p ≡ Some m → (n : Node) × (slice_get old p ≡ Some n) × IsHandedIn p n m

-- what waits for the others stays
abbrev pub WaitsBeside : ℕ → Node → Node → Type 0
WaitsBeside to old new = (q : ℕ) → (q ≡ to → ⊥) → waiting_in (outs_of new) q ≡ waiting_in (outs_of old) q

-- the workers' nodes are over one table of the file's protocols
pub record AreOver {O I : Type 0} (file : FileAt) (workers : List (Worker O I)) : Type 0 where
  pub table : Table
  pub starts : (q : ℕ) → start_in table q ≡ body_named file.protocols q
  pub over : (p : ℕ) (w : Worker O I) → slice_get workers p ≡ Some w → table_of (node_of w) ≡ table
  pub connects : (p : ℕ) (w : Worker O I) → slice_get workers p ≡ Some w → connect_count (node_of w) ≡ length file.connects

-- the lanes are still the two ends of each link, and have the lists and counts that they had; no
-- count of faults fell
pub record LanesStay {O I : Type 0} (outward : OutLane O) (inward : InLane I) (joined : O → I → Type 0) (old new : List (Lanes O I)) : Type 0 where
  pub square : IsSquare new
  pub ends : AllJoined joined new
  pub lists : SameLists outward.pushed inward.popped outward.vain inward.vain old new
  pub fell : NoneFell outward.faults inward.faults old new
