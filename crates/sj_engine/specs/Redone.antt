-- Entries of a log that are done again.
use Rattle.std.specs.Prelude.{◌≡◌, ◌⊎◌, ℕ, ◌+◌, ◌-◌, max, Some, None, List, [], ◌∷◌, ◌++◌, length, get_or}
use Rattle.sj_lang.specs.Place.{Place, done}
use Rattle.sj_end.specs.declared.note.Entry.{Entry}
use Rattle.sj_end.specs.declared.note.Event.TheVariants as events
use Rattle.sj_end.specs.Lines.{entry_at}
use Rattle.sj_end.specs.Views.{note_at}
use Rattle.sj_rules.specs.Frames.{FrameAt, frames_for}
use Rattle.sj_rules.specs.NodeRun.{Deed, StepAt, Steps, told_frames}
use Rattle.sj_node.specs.declared.node.Node.{Node}
use Rattle.sj_node.specs.Node.{act_of, clock_of, delivery, due_of, log_of, node_at, outbox_of, play_here}
use Rattle.sj_node.specs.Reading.{parties_of, party_of}
use Rattle.sj_table.specs.declared.table.Spot.{Spot}
use Rattle.sj_work.specs.Laned.{entries_of}

-- the entry is the last that the node noted
abbrev pub IsLast : Node → Entry → Type 0
IsLast n e = get_or (log_of n) (length (log_of n) - 1) e ≡ e

-- the entry isn't the last that the node noted
abbrev pub IsOther : Node → Entry → Type 0
IsOther n e = (before : List Entry) (d : Entry) → log_of n ≡ before ++ d ∷ [] → d ≡ e → ⊥

-- the deed is a step of the rules with exactly that entry; what it posts comes after what waited
pub record Redone (old new : Node) (deed : Deed Place) (entry : Entry) : Type 0 where
  pub step : StepAt Place
  pub steps : Steps (play_here old) max (party_of old) (node_at old) step (node_at new)
  pub is : step.deed ≡ deed
  pub noted : step.entry ≡ entry_at entry
  pub log : entries_of (log_of new) ≡ entries_of (log_of old) ++ entry_at entry ∷ []
  pub box : (q : ℕ) → told_frames done (outbox_of new q) ≡ told_frames done (outbox_of old q) ++ told_frames done (frames_for q step.entry.clock step.posts)
  pub play : play_here new ≡ play_here old
  pub party : party_of new ≡ party_of old
  pub parties : parties_of new ≡ parties_of old

-- the rules have no act for the node, or another entry is due, or none
abbrev pub IsNoAct : Node → Entry → Type 0
IsNoAct n entry = (act_of n ≡ None) ⊎ (due_of n ≡ Some entry → ⊥)

-- what a delivery of that frame notes
abbrev pub came_entry : Node → (from : ℕ) → FrameAt Spot → Entry
came_entry n from f = record { clock = max (clock_of n) f.clock + 1; event = events.Deliver from; note = note_at f.body }

-- the frame fits no row of the rules, or its delivery notes another entry
abbrev pub IsNoDelivery : Node → (from : ℕ) → FrameAt Spot → Entry → Type 0
IsNoDelivery n from f entry = (delivery n from f ≡ None) ⊎ (came_entry n from f ≡ entry → ⊥)
