-- Batches one after another, between which what a party sends to itself is carried home.
use Rattle.std.specs.Prelude.{◌≡◌, ℕ, max, Bool, true, false, List, ◌++◌, map, Option, Some, None}
use Rattle.std.specs.List.{flat_map}
use Rattle.sj_lang.specs.Place.{Place, done}
use Rattle.sj_rules.specs.Frames.{FrameAt}
use Rattle.sj_rules.specs.NodeRun.{NodeRun, StepAt, popped_from, posted_to}
use Rattle.sj_rules.specs.Work.{LostAt, lost_from}
use Rattle.sj_node.specs.Node.{log_of, node_at, play_here}
use Rattle.sj_node.specs.Reading.{parties_of, party_of}
use Rattle.sj_wire.specs.Spelling.{spelling}
use Rattle.sj_work.specs.declared.worker.Stop.{Stop}
use Rattle.sj_work.specs.declared.worker.Stop.TheVariants as stops
use Rattle.sj_work.specs.declared.worker.Worker.{Worker}
use Rattle.sj_work.specs.Laned.{entries_of}
use Rattle.sj_work.specs.Views.{in_of, lanes_of, node_of, out_of, stop_of}
use Rattle.sj_engine.specs.Batch.{Brings, Sends, waiting}
use Rattle.sj_engine.specs.Home.{CarriesHome}
use Rattle.sj_engine.specs.Lanes.{pushed_on, unread}
use Rattle.sj_engine.specs.declared.in_lane.ByteIn.{ByteIn}
use Rattle.sj_engine.specs.declared.out_lane.ByteOut.{ByteOut}

-- on a party's lanes to itself: what was unread, pushed, waiting and posted is what came, and what is unread, pushed and waiting
abbrev pub Keeps : (o : Option ByteOut) (i : Option ByteIn) (p : Option ByteOut) (j : Option ByteIn) → (box left posts came : List (FrameAt Place)) → Type 0
Keeps (Some o) (Some i) (Some p) (Some j) box left posts came =
    unread i ++ flat_map spelling (pushed_on o ++ (box ++ posts)) ≡ flat_map spelling came ++ (unread j ++ flat_map spelling (pushed_on p ++ left))
Keeps (Some o) (Some i) (Some p) None box left posts came = ⊥
Keeps (Some o) (Some i) None j box left posts came = ⊥
Keeps (Some o) None p j box left posts came = Sends (Some o) p box left posts × Brings None j came
Keeps None i p j box left posts came = Sends None p box left posts × Brings i j came

-- the party went by these steps; other lanes have what the steps post to others, and what they took came from the lanes
pub record Rounds (lost : Option (LostAt Place)) (old new : Worker ByteOut ByteIn) : Type 0 where
  pub steps : List (StepAt Place)
  pub run : NodeRun (play_here (node_of old)) max (party_of (node_of old)) (node_at (node_of old)) steps (node_at (node_of new))
  pub log : entries_of (log_of (node_of new)) ≡ entries_of (log_of (node_of old)) ++ map (λ s. s.entry) steps
  pub outs : (q : ℕ) → (q ≡ party_of (node_of old) → ⊥) → Sends (out_of old q) (out_of new q) (waiting old q) (waiting new q) (posted_to done q steps)
  pub ins : (q : ℕ) → (q ≡ party_of (node_of old) → ⊥) → Brings (in_of old q) (in_of new q) (popped_from done q steps ++ lost_from lost q)
  pub home : Keeps (out_of old (party_of (node_of old))) (in_of old (party_of (node_of old))) (out_of new (party_of (node_of old))) (in_of new (party_of (node_of old)))
      (waiting old (party_of (node_of old))) (waiting new (party_of (node_of old))) (posted_to done (party_of (node_of old)) steps) (popped_from done (party_of (node_of old)) steps ++ lost_from lost (party_of (node_of old)))
  pub play : play_here (node_of new) ≡ play_here (node_of old)
  pub party : party_of (node_of new) ≡ party_of (node_of old)
  pub parties : parties_of (node_of new) ≡ parties_of (node_of old)

-- what it sent to itself was carried home, and nothing else changed
pub record GoesHome (old new : Worker ByteOut ByteIn) : Type 0 where
  pub node : node_of new ≡ node_of old
  pub stop : stop_of new ≡ stop_of old
  pub lanes : CarriesHome (party_of (node_of old)) (lanes_of old) (lanes_of new)

-- a party that waits, has ended or is at a limit may go on by what it sent to itself
abbrev pub goes_on : Stop → Bool
goes_on stops.Finished = false
goes_on stops.Idle = true
goes_on stops.AtLimit = true
goes_on stops.ClockEnd = false
goes_on stops.NoMemory = false
goes_on stops.Fault = false
goes_on stops.Unfit = false
