-- What a party does until it must wait: steps of the rules, their entries, and the bytes that they take and send.
use Rattle.std.specs.Prelude.{◌≡◌, ℕ, ◌<◌, ◌≤◌, max, ⊤, List, [], ◌++◌, map, Option, Some, None}
use Rattle.std.specs.List.{flat_map}
use Rattle.sj_lang.specs.Place.{Place, done}
use Rattle.sj_rules.specs.Frames.{FrameAt}
use Rattle.sj_rules.specs.Limits.{clock_end}
use Rattle.sj_rules.specs.NodeRun.{NodeRun, StepAt, popped_from, posted_to, told_frames}
use Rattle.sj_rules.specs.Work.{LostAt, lost_from}
use Rattle.sj_node.specs.declared.refusal.Halt.TheVariants as halts
use Rattle.sj_node.specs.Node.{clock_of, log_of, node_at, node_halt, outbox_of, play_here}
use Rattle.sj_node.specs.Reading.{IsFinished, IsIdle, parties_of, party_of}
use Rattle.sj_wire.specs.Spelling.{spelling}
use Rattle.sj_work.specs.declared.worker.Stop.{Stop}
use Rattle.sj_work.specs.declared.worker.Stop.TheVariants as stops
use Rattle.sj_work.specs.declared.worker.Worker.{Worker}
use Rattle.sj_work.specs.Causes.{IsUnfit}
use Rattle.sj_work.specs.Laned.{entries_of}
use Rattle.sj_work.specs.Views.{in_of, node_of, out_of, unfit_of}
use Rattle.sj_engine.specs.Frames.{IsBroken}
use Rattle.sj_engine.specs.Lanes.{pushed_on, unread}
use Rattle.sj_engine.specs.declared.in_lane.ByteIn.{ByteIn}
use Rattle.sj_engine.specs.declared.out_lane.ByteOut.{ByteOut}

-- what waits for that party and no lane has, as lanes report it
abbrev pub waiting : Worker ByteOut ByteIn → ℕ → List (FrameAt Place)
waiting w q = told_frames done (outbox_of (node_of w) q)

-- what a lane has, and what waits after it, is what it had, what waited, and what is posted
abbrev pub Sends : Option ByteOut → Option ByteOut → (box left posts : List (FrameAt Place)) → Type 0
Sends None None box left posts = left ≡ box ++ posts
Sends None (Some p) box left posts = ⊥
Sends (Some o) None box left posts = ⊥
Sends (Some o) (Some p) box left posts = pushed_on p ++ left ≡ pushed_on o ++ (box ++ posts)

-- the unread bytes of a lane began with the spellings of the frames that came
abbrev pub Brings : Option ByteIn → Option ByteIn → (came : List (FrameAt Place)) → Type 0
Brings None None came = came ≡ []
Brings None (Some j) came = ⊥
Brings (Some i) None came = ⊥
Brings (Some i) (Some j) came = unread i ≡ flat_map spelling came ++ unread j

-- the party went by these steps; the log has their entries, the lanes what they post, and what they took came from the lanes
pub record Batch (lost : Option (LostAt Place)) (old new : Worker ByteOut ByteIn) : Type 0 where
  pub steps : List (StepAt Place)
  pub run : NodeRun (play_here (node_of old)) max (party_of (node_of old)) (node_at (node_of old)) steps (node_at (node_of new))
  pub log : entries_of (log_of (node_of new)) ≡ entries_of (log_of (node_of old)) ++ map (λ s. s.entry) steps
  pub outs : (q : ℕ) → Sends (out_of old q) (out_of new q) (waiting old q) (waiting new q) (posted_to done q steps)
  pub ins : (q : ℕ) → Brings (in_of old q) (in_of new q) (popped_from done q steps ++ lost_from lost q)
  pub play : play_here (node_of new) ≡ play_here (node_of old)
  pub party : party_of (node_of new) ≡ party_of (node_of old)
  pub parties : parties_of (node_of new) ≡ parties_of (node_of old)

-- nothing waits for a party of the file to which there is a lane
abbrev pub IsAllSent : Worker ByteOut ByteIn → Type 0
IsAllSent w = (q : ℕ) (o : ByteOut) → q < parties_of (node_of w) → out_of w q ≡ Some o → outbox_of (node_of w) q ≡ []

-- a party that must wait, has ended or is at a limit has sent all
abbrev pub SendsAll : Stop → Worker ByteOut ByteIn → Type 0
SendsAll stops.Finished w = IsAllSent w
SendsAll stops.Idle w = IsAllSent w
SendsAll stops.AtLimit w = IsAllSent w
SendsAll stops.ClockEnd w = ⊤
SendsAll stops.NoMemory w = ⊤
SendsAll stops.Fault w = ⊤
SendsAll stops.Unfit w = ⊤

-- the unread bytes of some lane begin with what is no frame
abbrev pub HasBroken : Worker ByteOut ByteIn → Type 0
HasBroken w = (q : ℕ) × (i : ByteIn) × (in_of w q ≡ Some i) × IsBroken (unread i)

-- why a party stopped so; out of memory alone is free
abbrev pub StopsBy : Option Stop → Option (LostAt Place) → Worker ByteOut ByteIn → Type 0
StopsBy None lost w = ⊤
StopsBy (Some stops.Finished) lost w = IsFinished (node_of w)
StopsBy (Some stops.Idle) lost w = IsIdle (node_halt (node_of w))
StopsBy (Some stops.AtLimit) lost w = node_halt (node_of w) ≡ Some halts.AtLimit
StopsBy (Some stops.ClockEnd) lost w = clock_end ≤ clock_of (node_of w)
StopsBy (Some stops.NoMemory) lost w = ⊤
StopsBy (Some stops.Fault) lost w = HasBroken w
StopsBy (Some stops.Unfit) lost w = IsUnfit lost (node_of w) (unfit_of w)
