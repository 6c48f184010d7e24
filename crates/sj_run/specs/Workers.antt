-- The workers of a file's parties, in a list by the parties' numbers: hired with their lanes, and
-- after their work.
use Rattle.std.specs.Prelude.{◌≡◌, ℕ, Bool, true, List, [], map, length, slice_get, Option, Some, None}
use Rattle.sj_lang.specs.FileAt.{FileAt, body_named}
use Rattle.std.specs.Global.{Vec}
use Rattle.sj_end.specs.declared.note.Entry.{Entry}
use Rattle.sj_node.specs.declared.node.Node.{Node}
use Rattle.sj_node.specs.Node.{log_of, node_at, outbox_of, play_here}
use Rattle.sj_node.specs.Play.{play_with}
use Rattle.sj_node.specs.Reading.{parties_of, party_of}
use Rattle.sj_rules.specs.Log.{EntryAt, IsJoined, IsRising, LineAt}
use Rattle.sj_rules.specs.Start.{first_node}
use Rattle.sj_lane.specs.declared.lane.OutLane.{Ghosts as OutLane}
use Rattle.sj_lane.specs.declared.lane.InLane.{Ghosts as InLane}
use Rattle.sj_lane.specs.declared.lane.Lanes.{Lanes}
use Rattle.sj_lane.specs.Square.{AllJoined, IsSquare}
use Rattle.sj_work.specs.declared.worker.Stop.{Stop}
use Rattle.sj_work.specs.declared.worker.Stop.TheVariants as stops
use Rattle.sj_work.specs.declared.worker.Worker.{Worker}
use Rattle.sj_work.specs.Laned.{entries_of}
use Rattle.sj_work.specs.Views.{in_of, lanes_of, node_of, out_of, stop_of}
use Rattle.sj_work.specs.Worked.{Worked}

-- each worker has the node and the lanes of its number, and has done nothing
pub record AreHired {O I : Type 0} (nodes : List Node) (lanes : List (Lanes O I)) (many : ℕ) (workers : List (Worker O I)) : Type 0 where
  pub count : length workers ≡ many
  pub nodes_are : (p : ℕ) (w : Worker O I) → slice_get workers p ≡ Some w → slice_get nodes p ≡ Some (node_of w)
  pub lanes_are : (p : ℕ) (w : Worker O I) → slice_get workers p ≡ Some w → slice_get lanes p ≡ Some (lanes_of w)
  pub idle : (p : ℕ) (w : Worker O I) → slice_get workers p ≡ Some w → stop_of w ≡ None

-- the worker's node is the first one of its party, plays by the file's protocols, and has noted and
-- posted nothing
pub record IsFirst {O I : Type 0} (file : FileAt) (p : ℕ) (w : Worker O I) : Type 0 where
  pub party : party_of (node_of w) ≡ p
  pub parties : parties_of (node_of w) ≡ length file.parties
  pub play : play_here (node_of w) ≡ play_with (body_named file.protocols) (length file.connects) (length file.parties)
  pub node : node_at (node_of w) ≡ first_node file p
  pub log : log_of (node_of w) ≡ []
  pub boxes : (q : ℕ) → outbox_of (node_of w) q ≡ []
  pub idle : stop_of w ≡ None

module _ {O I : Type 0} (outward : OutLane O) (inward : InLane I) where
  -- its lanes are new ones: nothing was pushed or popped, where they report, or tried in vain, and
  -- none met a fault
  pub record AreNew (tells : Bool) (w : Worker O I) : Type 0 where
    pub pushed_none : (q : ℕ) (o : O) → out_of w q ≡ Some o → tells ≡ true → outward.pushed o ≡ Some []
    pub popped_none : (q : ℕ) (i : I) → in_of w q ≡ Some i → tells ≡ true → inward.popped i ≡ Some []
    pub out_faultless : (q : ℕ) (o : O) → out_of w q ≡ Some o → outward.faults o ≡ 0
    pub in_faultless : (q : ℕ) (i : I) → in_of w q ≡ Some i → inward.faults i ≡ 0
    pub out_fresh : (q : ℕ) (o : O) → out_of w q ≡ Some o → outward.vain o ≡ 0
    pub in_fresh : (q : ℕ) (i : I) → in_of w q ≡ Some i → inward.vain i ≡ 0

  -- the party's worker, which began with its first node and new lanes, worked
  pub record HasWorked (file : FileAt) (looks : ℕ) (tells : Bool) (p : ℕ) (w : Worker O I) : Type 0 where
    pub old : Worker O I
    pub first : IsFirst file p old
    pub new : AreNew tells old
    pub worked : Worked outward inward looks old w

  -- so did those of all parties, and their lanes are the two ends of each link
  pub record AllWorked (joined : O → I → Type 0) (file : FileAt) (looks : ℕ) (tells : Bool) (workers : List (Worker O I)) : Type 0 where
    pub count : length workers ≡ length file.parties
    pub square : IsSquare (map lanes_of workers)
    pub ends : AllJoined joined (map lanes_of workers)
    pub each : (p : ℕ) (w : Worker O I) → slice_get workers p ≡ Some w → HasWorked file looks tells p w

-- some worker stopped so
pub record SomeStopped {O I : Type 0} (workers : List (Worker O I)) (stop : Stop) : Type 0 where
  pub party : ℕ
  pub worker : Worker O I
  pub there : slice_get workers party ≡ Some worker
  pub stopped : stop_of worker ≡ Some stop

-- no worker stopped so
abbrev pub NoneStopped : {O I : Type 0} → List (Worker O I) → Stop → Type 0
NoneStopped {O} {I} workers stop = (p : ℕ) (w : Worker O I) → slice_get workers p ≡ Some w → stop_of w ≡ Some stop → ⊥

-- a worker's log, and none where there is no worker
abbrev pub log_or : {O I : Type 0} → Option (Worker O I) → List EntryAt
log_or None = []
log_or (Some w) = entries_of (log_of (node_of w))

-- the logs of the workers by their numbers, and none beside them
abbrev pub logs_in : {O I : Type 0} → List (Worker O I) → ℕ → List EntryAt
logs_in workers p = log_or (slice_get workers p)

-- the clocks of each log rise
abbrev pub AllRising : {O I : Type 0} → List (Worker O I) → Type 0
AllRising {O} {I} workers = (p : ℕ) (w : Worker O I) → slice_get workers p ≡ Some w → IsRising 0 (entries_of (log_of (node_of w)))

-- these are the logs of the workers
abbrev pub AreLogs : {O I : Type 0} → List (Worker O I) → List (Vec Entry) → Type 0
AreLogs workers logs = map (λ (v : Vec Entry). v.items) logs ≡ map (λ w. log_of (node_of w)) workers

module _ {O I : Type 0} (outward : OutLane O) (inward : InLane I) (joined : O → I → Type 0) (file : FileAt) (looks : ℕ) (tells : Bool) where
  -- the lines are the joined logs of workers that worked over such lanes, of which none stopped at
  -- a fault, out of memory or as unfit
  pub record AreLoggedOver (lines : List LineAt) : Type 0 where
    pub workers : List (Worker O I)
    pub worked : AllWorked outward inward joined file looks tells workers
    pub faultless : NoneStopped workers stops.Fault
    pub remembers : NoneStopped workers stops.NoMemory
    pub fits : NoneStopped workers stops.Unfit
    pub joins : IsJoined (logs_in workers) lines
