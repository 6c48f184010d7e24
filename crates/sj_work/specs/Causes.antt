-- Why a call of a worker answered so.
use Rattle.std.specs.Prelude.{◌≡◌, ◌⊎◌, ℕ, ◌+◌, ◌<◌, ◌≤◌, max, min, ⊤, Option, Some, None, option_map}
use Rattle.sj_lang.specs.Place.{Place, done}
use Rattle.sj_end.specs.declared.note.Entry.{Entry}
use Rattle.sj_end.specs.declared.note.Event.TheVariants as events
use Rattle.sj_end.specs.declared.note.Line.{Line}
use Rattle.sj_end.specs.Views.{note_at}
use Rattle.sj_rules.specs.Limits.{clock_end}
use Rattle.sj_rules.specs.Node.{arrives}
use Rattle.sj_rules.specs.Work.{LostAt}
use Rattle.sj_lane.specs.declared.lane.OutLane.{Ghosts as OutLane}
use Rattle.sj_lane.specs.declared.lane.InLane.{Ghosts as InLane}
use Rattle.sj_node.specs.declared.node.Node.{Node}
use Rattle.sj_node.specs.declared.refusal.Halt.TheVariants as halts
use Rattle.sj_node.specs.Node as nodes
use Rattle.sj_node.specs.Node.{act_of, clock_of, due_of, node_at}
use Rattle.sj_node.specs.Reading.{IsFinished, IsIdle, parties_of, party_of}
use Rattle.sj_work.specs.declared.worker.Stop.{Stop}
use Rattle.sj_work.specs.declared.worker.Stop.TheVariants as stops
use Rattle.sj_work.specs.declared.worker.Worker.{Worker}
use Rattle.sj_work.specs.Counts.{SomeRose}
use Rattle.sj_work.specs.Views.{in_of, looks_of, node_of, out_of, unfit_of}
use Rattle.sj_work.specs.Went.{InARow, InVain, OutVain}

-- with that stop a frame may be lost
abbrev pub MayLose : Option Stop → Type 0
MayLose (Some stops.NoMemory) = ⊤
MayLose (Some stops.Unfit) = ⊤
MayLose (Some stops.Fault) = ⊥
MayLose (Some stops.Finished) = ⊥
MayLose (Some stops.Idle) = ⊥
MayLose (Some stops.AtLimit) = ⊥
MayLose (Some stops.ClockEnd) = ⊥
MayLose None = ⊥

abbrev pub Loses : Option (LostAt Place) → Option Stop → Type 0
Loses None stop = ⊤
Loses (Some l) stop = MayLose stop

-- an entry with the party of its node
abbrev pub own_line : Node → Entry → Line
own_line n entry = record { party = party_of n; entry = entry }

-- the line that the delivery of a frame would have made, whose clock counts as at most 2^62
abbrev pub lost_line : Node → LostAt Place → Line
lost_line n l = own_line n (record { clock = max (clock_of n) (min l.frame.clock clock_end) + 1; event = events.Deliver l.party; note = note_at l.frame.body })

-- the frame that was lost came from a party of the file and fits no row of the rules. Or none was
-- lost, nothing holds the party up, and the rules have no act. The line is that of the delivery, or
-- of the entry that is due
abbrev pub IsUnfit : Option (LostAt Place) → Node → Option Line → Type 0
IsUnfit (Some l) n line =
    (l.party < parties_of n) × (arrives done (parties_of n) max (node_at n) l.party l.frame ≡ None) × (line ≡ Some (lost_line n l))
IsUnfit None n line = (nodes.node_halt n ≡ None) × (act_of n ≡ None) × (line ≡ option_map (own_line n) (due_of n))

module _ {O I : Type 0} where
  -- the clock can't rise any more
  abbrev pub IsClockEnd : Worker O I → Type 0
  IsClockEnd new = clock_end ≤ clock_of (node_of new)

  -- the count of faults rose on a lane to a party, or on one from a party
  abbrev pub MetFault : (out_faults : O → ℕ) (in_faults : I → ℕ) → (old new : Worker O I) → Type 0
  MetFault out_faults in_faults old new = SomeRose out_faults (out_of old) (out_of new) ⊎ SomeRose in_faults (in_of old) (in_of new)

module _ {O I : Type 0} (outward : OutLane O) (inward : InLane I) where
  -- the party waits or has ended, after so many turns in a row without an event
  pub record IsIdleFor (looks : ℕ) (old new : Worker O I) : Type 0 where
    pub idle : IsIdle (nodes.node_halt (node_of new))
    pub turns : looks_of new ≡ looks
    pub ins : InVain inward.vain looks old new
    pub outs : OutVain outward.vain looks old new
    pub row : InARow outward inward looks old new

  -- the party is at a limit, likewise, and after one such turn where no look is asked for
  pub record IsAtLimit (looks : ℕ) (old new : Worker O I) : Type 0 where
    pub limit : nodes.node_halt (node_of new) ≡ Some halts.AtLimit
    pub ins : InVain inward.vain (max looks 1) old new
    pub outs : OutVain outward.vain (max looks 1) old new
    pub row : InARow outward inward (max looks 1) old new

  -- the cause of each answer; out of memory alone is free
  abbrev pub Cause : Option Stop → (looks : ℕ) → Option (LostAt Place) → (old new : Worker O I) → Type 0
  Cause None looks lost old new = ⊤
  Cause (Some stops.Finished) looks lost old new = IsFinished (node_of new)
  Cause (Some stops.Idle) looks lost old new = IsIdleFor looks old new
  Cause (Some stops.AtLimit) looks lost old new = IsAtLimit looks old new
  Cause (Some stops.ClockEnd) looks lost old new = IsClockEnd new
  Cause (Some stops.NoMemory) looks lost old new = ⊤
  Cause (Some stops.Fault) looks lost old new = MetFault outward.faults inward.faults old new
  Cause (Some stops.Unfit) looks lost old new = IsUnfit lost (node_of new) (unfit_of new)
