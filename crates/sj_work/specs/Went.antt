-- How a worker went on.
use Rattle.std.specs.Prelude.{◌≡◌, ℕ, ◌<◌, ◌≤◌, max, [], Option, None}
use Rattle.sj_lang.specs.Place.{Place, done}
use Rattle.sj_rules.specs.Limits.{clock_end}
use Rattle.sj_rules.specs.Work.{LaneWork, LostAt}
use Rattle.sj_lane.specs.declared.lane.OutLane.{Ghosts as OutLane}
use Rattle.sj_lane.specs.declared.lane.InLane.{Ghosts as InLane}
use Rattle.sj_node.specs.declared.node.Node.{Node}
use Rattle.sj_node.specs.Node.{clock_of, connect_count, node_at, outbox_of, play_here}
use Rattle.sj_node.specs.Reading.{parties_of, party_of, table_of}
use Rattle.sj_work.specs.declared.worker.Worker.{Worker}
use Rattle.sj_work.specs.Counts.{OnLane, RoseBy, Stands, Stood}
use Rattle.sj_work.specs.Laned.{laned}
use Rattle.sj_work.specs.Views.{in_of, node_of, out_of}

-- no event: the node stays, and frames only leave outboxes
pub record HasNoEvent (old new : Node) : Type 0 where
  pub node : node_at new ≡ node_at old
  pub parties : parties_of new ≡ parties_of old
  pub boxes : (q : ℕ) → (outbox_of new q ≡ [] → ⊥) → outbox_of old q ≡ [] → ⊥

module _ {O I : Type 0} where
  -- the calls in vain on the lane from each party rose by so many
  abbrev pub InVain : (in_vain : I → ℕ) → ℕ → (old new : Worker O I) → Type 0
  InVain in_vain k old new = (q : ℕ) → q < parties_of (node_of new) → OnLane in_vain (RoseBy k) (in_of old q) (in_of new q)

  -- so did those on the lane to each party for which something waits
  abbrev pub OutVain : (out_vain : O → ℕ) → ℕ → (old new : Worker O I) → Type 0
  OutVain out_vain k old new =
      (q : ℕ) → q < parties_of (node_of new) → (outbox_of (node_of new) q ≡ [] → ⊥) → OnLane out_vain (RoseBy k) (out_of old q) (out_of new q)

module _ {O I : Type 0} (outward : OutLane O) (inward : InLane I) where
  -- the worker went by steps of the rules, which its log has, and by the frames that its lanes
  -- report. Its party plays the same part over the same table, its clock didn't fall, and no count
  -- of a lane did. Lanes from no party of the file stay as they are. Where the clock stands at its
  -- end, so do all lanes from parties
  pub record Went (lost : Option (LostAt Place)) (old new : Worker O I) : Type 0 where
    pub work : LaneWork outward.pushed outward.same inward.popped inward.same (play_here (node_of old)) max done (party_of (node_of old)) (laned old) (laned new) lost
    pub play : play_here (node_of new) ≡ play_here (node_of old)
    pub party : party_of (node_of new) ≡ party_of (node_of old)
    pub parties : parties_of (node_of new) ≡ parties_of (node_of old)
    pub table : table_of (node_of new) ≡ table_of (node_of old)
    pub connects : connect_count (node_of new) ≡ connect_count (node_of old)
    pub clock : clock_of (node_of old) ≤ clock_of (node_of new)
    pub faults_out : (q : ℕ) → OnLane outward.faults Stands (out_of old q) (out_of new q)
    pub vain_out : (q : ℕ) → OnLane outward.vain Stood (out_of old q) (out_of new q)
    pub faults_in : (q : ℕ) → OnLane inward.faults Stands (in_of old q) (in_of new q)
    pub vain_in : (q : ℕ) → OnLane inward.vain Stood (in_of old q) (in_of new q)
    pub beyond : (q : ℕ) → parties_of (node_of old) ≤ q → in_of new q ≡ in_of old q
    pub at_end : clock_end ≤ clock_of (node_of old) → (q : ℕ) → in_of new q ≡ in_of old q

  -- the last turns were in vain, so many in a row: since then there was no event, and on each lane
  -- that is looked at the calls in vain rose by so many
  pub record InARow (turns : ℕ) (old new : Worker O I) : Type 0 where
    pub since : Worker O I
    pub before : Went None old since
    pub after : Went None since new
    pub rests : HasNoEvent (node_of since) (node_of new)
    pub ins : InVain inward.vain turns since new
    pub outs : OutVain outward.vain turns since new
