-- The answers of single calls: whether the node is finished, and what follows refusals.
use Rattle.std.specs.Prelude.{◌≡◌, ℕ, ◌+◌, max, Option, Some, None, option_map}
use Rattle.sj_lang.specs.Place.{Place}
use Rattle.sj_end.specs.declared.note.Event.TheVariants as events
use Rattle.sj_end.specs.declared.note.Line.{Line}
use Rattle.sj_end.specs.declared.frames.Frame.{Frame}
use Rattle.sj_end.specs.Views.{frame_at, note_at}
use Rattle.sj_rules.specs.Frames.{FrameAt}
use Rattle.sj_lane.specs.declared.lane.PushRefusal.{PushRefusal}
use Rattle.sj_lane.specs.declared.lane.PushRefusal.TheVariants as pushes
use Rattle.sj_lane.specs.Told.{told_frame}
use Rattle.sj_node.specs.declared.node.Node.{Node}
use Rattle.sj_node.specs.declared.refusal.DeliverRefusal.{DeliverRefusal}
use Rattle.sj_node.specs.declared.refusal.DeliverRefusal.TheVariants as deliveries
use Rattle.sj_node.specs.declared.refusal.Halt.{Halt}
use Rattle.sj_node.specs.declared.refusal.Halt.TheVariants as halts
use Rattle.sj_node.specs.Node.{Does, Stays, clock_of, delivery, due_of}
use Rattle.sj_node.specs.Reading.{IsFinished}
use Rattle.sj_work.specs.declared.worker.Outcome.{Outcome}
use Rattle.sj_work.specs.declared.worker.Outcome.TheVariants as answers
use Rattle.sj_work.specs.Causes.{lost_line, own_line}

-- it is answered exactly where the node is finished
abbrev pub SeesFinished : Node → Option Outcome → Type 0
SeesFinished n None = IsFinished n → ⊥
SeesFinished n (Some answers.Finished) = IsFinished n
SeesFinished n (Some answers.Idle) = ⊥
SeesFinished n (Some answers.AtLimit) = ⊥
SeesFinished n (Some answers.ClockEnd) = ⊥
SeesFinished n (Some answers.NoMemory) = ⊥
SeesFinished n (Some answers.Fault) = ⊥
SeesFinished n (Some (answers.Unfit line)) = ⊥

-- the answer to an act that a node refused. A party that is halted doesn't stop its worker. Where
-- the rules have no act, the line is that of the entry that is due
abbrev pub SaysHalt : Node → Halt → Option Outcome → Type 0
SaysHalt n halts.Waits answer = answer ≡ None
SaysHalt n halts.Ended answer = answer ≡ None
SaysHalt n halts.AtLimit answer = answer ≡ None
SaysHalt n halts.NoMemory answer = answer ≡ Some answers.NoMemory
SaysHalt n halts.Unfit answer = (line : Line) × (answer ≡ Some (answers.Unfit line)) × (Some line ≡ option_map (own_line n) (due_of n))

-- the answer to a frame that a node refused
abbrev pub delivery_answer : Node → (origin : ℕ) → FrameAt Place → DeliverRefusal → Outcome
delivery_answer n origin frame deliveries.NoMemory = answers.NoMemory
delivery_answer n origin frame deliveries.Unfit = answers.Unfit (lost_line n (record { party = origin; frame = frame }))

-- the answer to a frame that a lane refused; a full one is no reason to stop
abbrev pub push_answer : PushRefusal → Option Outcome
push_answer pushes.Full = None
push_answer pushes.Fault = Some answers.Fault
push_answer pushes.NoMemory = Some answers.NoMemory

-- the frame came, by its row
abbrev pub Delivered : (origin : ℕ) → Frame → (old new : Node) → Type 0
Delivered origin f old new = Does old (delivery old origin (frame_at f)) (max (clock_of old) f.clock + 1) (events.Deliver origin) (note_at (frame_at f).body) new

-- a frame was delivered, or refused and lost
abbrev pub TakesFrame : (origin : ℕ) → Frame → (old new : Node) → Option Outcome → Type 0
TakesFrame origin f old new None = Delivered origin f old new
TakesFrame origin f old new (Some answers.NoMemory) = Stays old new
TakesFrame origin f old new (Some (answers.Unfit line)) =
    Stays old new × (delivery old origin (frame_at f) ≡ None) × (line ≡ lost_line new (record { party = origin; frame = told_frame f }))
TakesFrame origin f old new (Some answers.Finished) = ⊥
TakesFrame origin f old new (Some answers.Idle) = ⊥
TakesFrame origin f old new (Some answers.AtLimit) = ⊥
TakesFrame origin f old new (Some answers.ClockEnd) = ⊥
TakesFrame origin f old new (Some answers.Fault) = ⊥
