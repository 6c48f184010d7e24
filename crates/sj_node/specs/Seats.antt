-- The calls of a party whose steps come from outside: their steps, what holds them up, what they take and what is noted of them.
use Rattle.std.specs.Prelude.{◌≡◌, ◌+◌, true, false, Bool, List, ◌∷◌, Option, Some, None}
use Rattle.sj_base.specs.declared.EndId.{EndId}
use Rattle.sj_base.specs.declared.Msg.{Msg}
use Rattle.sj_base.specs.declared.Msg.TheVariants as msgs
use Rattle.sj_lang.specs.Place.{Place}
use Rattle.sj_semantics.specs.Program.{Program}
use Rattle.sj_semantics.specs.declared.Awaits.TheVariants as awaits
use Rattle.sj_semantics.specs.declared.Want.{Want}
use Rattle.sj_semantics.specs.declared.Want.TheVariants as wants
use Rattle.sj_rules.specs.Halts as causes
use Rattle.sj_rules.specs.Log as logs
use Rattle.sj_rules.specs.Node as rules
use Rattle.sj_rules.specs.Node.{NodeAt, act_by}
use Rattle.sj_rules.specs.Record.{Held, HeldAt}
use Rattle.sj_rules.specs.Rows.{Worked}
use Rattle.sj_end.specs.Lines.{note_seen}
use Rattle.sj_end.specs.declared.note.Event.TheVariants as events
use Rattle.sj_end.specs.declared.note.Note.{Note}
use Rattle.sj_end.specs.declared.note.Note.TheVariants as notes
use Rattle.sj_node.specs.declared.node.Node.{Node}
use Rattle.sj_node.specs.declared.refusal.Halt.{Halt}
use Rattle.sj_node.specs.declared.refusal.Halt.TheVariants as halts
use Rattle.sj_node.specs.declared.seats.Call.{Call}
use Rattle.sj_node.specs.declared.seats.Call.TheVariants as calls
use Rattle.sj_node.specs.Calls.{place_here, silent}
use Rattle.sj_node.specs.Halts.{stop_by}
use Rattle.sj_node.specs.Node.{Did, clock_of, next_head, node_at, offers_of, took_if}
use Rattle.sj_node.specs.Play.{names_known}
use Rattle.sj_node.specs.Slots.{mains_in}

-- the step that the call is
abbrev pub want_at : Node → Call → rules.Want Place
want_at n (calls.Send e m) = rules.sends e m
want_at n (calls.Delegate c e) = rules.delegates c e
want_at n (calls.Take e spot) = rules.takes e (place_here n spot)
want_at n (calls.Close e) = rules.closes e

-- the same, as a program would want it; what it awaits isn't asked
abbrev pub want_shown : Call → Want
want_shown (calls.Send e m) = wants.Send e m
want_shown (calls.Delegate c e) = wants.Delegate c e
want_shown (calls.Take e spot) = wants.Take e awaits.OneOf
want_shown (calls.Close e) = wants.Close e

-- why the call can't be done, whatever its message is: it names an awaited end, delegates an end with 100 handovers, or takes where
-- no message is there
abbrev pub call_stop : Node → Call → Option Halt
call_stop n call = stop_by (mains_in n.mains.items) n.requests (offers_of n) 0 (want_shown call)

-- the message that the call takes, where it takes and one is there
abbrev pub head_taken : Node → Call → Option Msg
head_taken n (calls.Take e spot) = next_head n e
head_taken n _ = None

-- what that message names is there
abbrev pub is_known_head : Node → Option Msg → Bool
is_known_head n None = true
is_known_head n (Some m) = names_known n.connects n.parties m

-- the message that the call takes, if any, names what is there
abbrev pub takes_known : Node → Call → Bool
takes_known n call = is_known_head n (head_taken n call)

-- what is noted of the call
abbrev pub call_note : Node → Call → Note
call_note n (calls.Send e m) = notes.Sent e m
call_note n (calls.Delegate c e) = notes.Sent c (msgs.Sess e.sess e.side n.party)
call_note n (calls.Take e spot) = took_if e (next_head n e)
call_note n (calls.Close e) = notes.Shut e

-- it is a take
abbrev pub is_take : Call → Bool
is_take (calls.Take e spot) = true
is_take _ = false

-- a cause of the rules, as a node answers it
abbrev pub halt_named : causes.Halt → Halt
halt_named causes.at_end = halts.Ended
halt_named causes.worn = halts.AtLimit
halt_named (causes.awaits e) = halts.Waits
halt_named (causes.delegated_enough e) = halts.AtLimit
halt_named (causes.no_message e) = halts.Waits
halt_named causes.requested_enough = halts.AtLimit
halt_named (causes.no_offer from) = halts.Waits

-- the step was done by that row of the rules, and its note is the one that they ask for
pub record IsRowOf (old : Node) (want : rules.Want Place) (noted : Note) (new : Node) : Type 0 where
  pub left : Worked Place (NodeAt Place Program)
  pub row : act_by (silent old.parties) old.party (node_at old) want ≡ Some left
  pub note : logs.act_note old.party (node_at old) want ≡ Some (note_seen noted)
  pub did : Did old left (clock_of old + 1) events.Act noted new

-- the call was done so
abbrev pub IsCalled : Node → Call → Node → Type 0
IsCalled old call new = IsRowOf old (want_at old call) (call_note old call) new

-- the next message of a Held end is that one
pub record IsHead (n : Node) (e : EndId) (m : Msg) : Type 0 where
  pub held : HeldAt Place
  pub rest : List Msg
  pub there : (node_at n).main e ≡ Some (Held held)
  pub first : held.untaken ≡ m ∷ rest
