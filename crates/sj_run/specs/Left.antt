-- What the workers of a file's parties leave, whatever their lanes report. This is each party's
-- steps, what it popped and pushed by them, and whether the links carried that in order and
-- unchanged.
use Rattle.std.specs.Prelude.{◌≡◌, ℕ, ◌≤◌, List, [], ◌++◌, length, slice_get, unwrap_or, Option, Some, option_map}
use mathlib.Core.List.{IsPrefix}
use Rattle.sj_lang.specs.Place.{Place, done}
use Rattle.sj_lang.specs.FileAt.{FileAt, body_named}
use Rattle.sj_end.specs.declared.note.Line.{Line}
use Rattle.sj_node.specs.declared.node.Node.{Node}
use Rattle.sj_node.specs.Node as nodes
use Rattle.sj_node.specs.Node.{log_of, node_at, outbox_of}
use Rattle.sj_node.specs.Play.{play_with}
use Rattle.sj_node.specs.Reading.{parties_of, party_of}
use Rattle.sj_rules.specs.Frames.{FrameAt}
use Rattle.sj_rules.specs.Log.{EntryAt}
use Rattle.sj_rules.specs.NodeRun.{StepAt, popped_from, posted_to, told_frames}
use Rattle.sj_rules.specs.Work.{LostAt, lost_from}
use Rattle.sj_work.specs.declared.worker.Stop.{Stop}
use Rattle.sj_work.specs.declared.worker.Stop.TheVariants as stops
use Rattle.sj_work.specs.declared.worker.Worker.{Worker}
use Rattle.sj_work.specs.Causes.{IsUnfit}
use Rattle.sj_work.specs.Laned.{entries_of}
use Rattle.sj_work.specs.Views.{node_of, stop_of, unfit_of}
use Rattle.sj_run.specs.Logged.{HasLogged}

-- what a party's worker left, its lanes aside: its node with its log, how it stopped, and the line
-- of what didn't fit
pub record LeftAt : Type 0 where
  pub node : Node
  pub stop : Option Stop
  pub unfit : Option Line

abbrev pub left_of : {O I : Type 0} → Worker O I → LeftAt
left_of w = record { node = node_of w; stop = stop_of w; unfit = unfit_of w }

-- what a party popped from q: the frames of its steps that came from q, and then the one that it
-- lost, if any
abbrev pub popped_in : List (StepAt Place) → Option (LostAt Place) → ℕ → List (FrameAt Place)
popped_in steps lost q = popped_from done q steps ++ lost_from lost q

-- from the start of the file on the party's node did the steps that its log has. Where it stopped
-- as unfit, no row of the rules takes what is left over
pub record HasWent (file : FileAt) (p : ℕ) (left : LeftAt) : Type 0 where
  pub logged : HasLogged file p (entries_of (log_of left.node))
  pub node : logged.node ≡ node_at left.node
  pub play : nodes.play_here left.node ≡ play_with (body_named file.protocols) (length file.connects) (length file.parties)
  pub party : party_of left.node ≡ p
  pub parties : parties_of left.node ≡ length file.parties
  pub lost : Option (LostAt Place)
  pub refused : left.stop ≡ Some stops.Unfit → IsUnfit lost left.node left.unfit
  -- it popped nothing from beside the parties, and what it pushed to each is what its steps post,
  -- without what is left in its outbox
  pub beside : (q : ℕ) → length file.parties ≤ q → popped_in logged.steps lost q ≡ []
  pub pushed : ℕ → List (FrameAt Place)
  pub posted : (q : ℕ) → pushed q ++ told_frames done (outbox_of left.node q) ≡ posted_to done q logged.steps

-- so did all parties of the file, and none stopped at a fault
pub record AllWent (file : FileAt) (left : List LeftAt) : Type 0 where
  pub count : length left ≡ length file.parties
  pub each : (p : ℕ) (l : LeftAt) → slice_get left p ≡ Some l → HasWent file p l
  pub faultless : (p : ℕ) (l : LeftAt) → slice_get left p ≡ Some l → l.stop ≡ Some stops.Fault → ⊥

-- the parties' logs, and none beside them
abbrev pub logs_left : List LeftAt → ℕ → List EntryAt
logs_left left p = unwrap_or (option_map (λ l. entries_of (log_of l.node)) (slice_get left p)) []

-- the links carried in order and unchanged. That is, all parties of the file can have gone so that
-- what each popped from each other one is a prefix of what that one pushed to it
pub record CarriedInOrder (file : FileAt) (left : List LeftAt) : Type 0 where
  pub count : length left ≡ length file.parties
  pub each : (p : ℕ) (l : LeftAt) → slice_get left p ≡ Some l → HasWent file p l
  pub front : (p q : ℕ) (from to : LeftAt) (one : slice_get left p ≡ Some from) (other : slice_get left q ≡ Some to)
      → IsPrefix (popped_in (each q to other).logged.steps (each q to other).lost p) ((each p from one).pushed q)
