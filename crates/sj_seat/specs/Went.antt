-- What a call of a guest did, whatever its code calls later, and why a call isn't done.
use Rattle.std.specs.Prelude.{◌≡◌, ◌⊎◌, ◌≤◌, max, false, ⊤, List, Option, Some, None, option_map}
use Rattle.sj_base.specs.declared.EndId.{EndId}
use Rattle.sj_base.specs.declared.Msg.{Msg}
use Rattle.sj_lang.specs.FileAt.{FileAt}
use Rattle.sj_lang.specs.Place.{Place, done}
use Rattle.sj_lane.specs.declared.lane.OutLane.{Ghosts as OutLane}
use Rattle.sj_lane.specs.declared.lane.InLane.{Ghosts as InLane}
use Rattle.sj_node.specs.Calls.{call_of}
use Rattle.sj_node.specs.Node.{clock_of, connect_count, node_at}
use Rattle.sj_node.specs.Play.{names_known}
use Rattle.sj_node.specs.Reading as nodes
use Rattle.sj_node.specs.Reading.{parties_of, party_of}
use Rattle.sj_node.specs.Seats.{IsHead, halt_named}
use Rattle.sj_node.specs.declared.node.Node.{Node}
use Rattle.sj_node.specs.declared.refusal.Halt.{Halt}
use Rattle.sj_node.specs.declared.refusal.Halt.TheVariants as halts
use Rattle.sj_rules.specs.Halts.{halt_by}
use Rattle.sj_rules.specs.Node.{Want}
use Rattle.sj_rules.specs.Limits.{clock_end}
use Rattle.sj_rules.specs.Work.{LaneWork, LostAt}
use Rattle.sj_seat_laws.specs.Calls.{Call, SeatedAt, takes}
use Rattle.sj_seat_laws.specs.Guards.{want_of_call}
use Rattle.sj_seat_laws.specs.SeatedPlay.{seated_play}
use Rattle.sj_work.specs.Causes.{Loses}
use Rattle.sj_work.specs.Views as works
use Rattle.sj_work.specs.Views.{stop_of}
use Rattle.sj_work.specs.Worked.{kept_stop}
use Rattle.sj_work.specs.declared.worker.Stop.{Stop}
use Rattle.sj_work.specs.declared.worker.Stop.TheVariants as stops
use Rattle.sj_work.specs.declared.worker.Worker.{Worker}
use Rattle.sj_seat.specs.Rules.{first_refusal}
use Rattle.sj_seat.specs.Views.{calls_of, ends_of, laned_at, looks_of, may_of, node_of, seat_of, texts_of, worker_of}
use Rattle.sj_seat.specs.Wishes.{open_tests_of, tests_of}
use Rattle.sj_seat.specs.declared.wish.OpenWish.{OpenWish}
use Rattle.sj_seat.specs.declared.wish.Wish.{Wish}
use Rattle.sj_seat.specs.declared.guest.Guest.{Guest}
use Rattle.sj_seat.specs.declared.refusal.SeatRefusal.{SeatRefusal}
use Rattle.sj_seat.specs.declared.refusal.SeatRefusal.TheVariants as refusals

module _ {O I : Type 0} (outward : OutLane O) (inward : InLane I) where
  -- the worker went by steps of the play in which its party is played by code, from what that party was to what it is; a frame is lost
  -- only with a stop that says so
  pub record SeatWork (file : FileAt) (s t : SeatedAt) (old new : Worker O I) : Type 0 where
    pub lost : Option (LostAt Place)
    pub work : LaneWork outward.pushed outward.same inward.popped inward.same (seated_play file) max done (party_of (works.node_of old)) (laned_at s old) (laned_at t new) lost
    pub loses : Loses lost (stop_of new)

  -- so a guest went, from where its code makes the one list of calls to where it makes the other
  abbrev pub Went : {G : Type 0} → FileAt → (before after : List Call) → (old new : Guest O I G) → Type 0
  Went file before after old new = SeatWork file (seat_of before old) (seat_of after new) (worker_of old) (worker_of new)

-- what stays of a node whatever is called
pub record Keeps (old new : Node) : Type 0 where
  pub party : party_of new ≡ party_of old
  pub parties : parties_of new ≡ parties_of old
  pub connects : connect_count new ≡ connect_count old
  pub table : nodes.table_of new ≡ nodes.table_of old
  pub clock : clock_of old ≤ clock_of new

-- the stop, where nothing more is done after it
abbrev pub lasting : Stop → Option Stop
lasting stops.ClockEnd = Some stops.ClockEnd
lasting stops.NoMemory = Some stops.NoMemory
lasting stops.Fault = Some stops.Fault
lasting stops.Unfit = Some stops.Unfit
lasting stops.Finished = None
lasting stops.Idle = None
lasting stops.AtLimit = None

-- what keeps the node from the step now, as the rules say
abbrev pub held_up : Node → Want Place → Option Halt
held_up n want = option_map halt_named (halt_by (node_at n) want)

-- the call takes a message that names what isn't there
pub record NamesNothing (n : Node) (c : Call) : Type 0 where
  pub end : EndId
  pub msg : Msg
  pub is : c ≡ takes end
  pub next : IsHead n end msg
  pub unknown : names_known (connect_count n) (parties_of n) msg ≡ false

-- the rules have no row for the call's step, or what it takes names what isn't there
abbrev pub HasNoRow : Node → Want Place → Call → Type 0
HasNoRow n want c = (call_of n want ≡ None) ⊎ NamesNothing n c

-- why the node didn't do the step of a call that takes nothing
abbrev pub IsHaltOf : Halt → Node → Want Place → Type 0
IsHaltOf halts.Waits n want = held_up n want ≡ Some halts.Waits
IsHaltOf halts.AtLimit n want = held_up n want ≡ Some halts.AtLimit
IsHaltOf halts.Unfit n want = call_of n want ≡ None
IsHaltOf halts.NoMemory n want = ⊤
IsHaltOf halts.Ended n want = ⊥

module _ {O I G : Type 0} where
  -- the first rule that applies to what the code asks for
  abbrev pub first_rule : Guest O I G → Wish → Option SeatRefusal
  first_rule g wish = first_refusal (tests_of (texts_of g) (calls_of g) (ends_of g) wish)

  -- the same, where it asks for a session to be opened
  abbrev pub first_open_rule : Guest O I G → OpenWish → Option SeatRefusal
  first_open_rule g wish = first_refusal (open_tests_of (calls_of g) (may_of g) wish)

  -- the worker stopped for good: with that stop, or its clock can't rise any more
  abbrev pub IsStopped : Stop → Guest O I G → Type 0
  IsStopped stop g = (kept_stop (stop_of (worker_of g)) ≡ Some stop) ⊎ ((stop ≡ stops.ClockEnd) × (clock_end ≤ clock_of (node_of g)))

  -- why the node didn't do the call
  abbrev pub IsHalt : Halt → Call → Guest O I G → Type 0
  IsHalt halts.Waits c g = held_up (node_of g) (want_of_call (may_of g) (ends_of g) c) ≡ Some halts.Waits
  IsHalt halts.AtLimit c g = held_up (node_of g) (want_of_call (may_of g) (ends_of g) c) ≡ Some halts.AtLimit
  IsHalt halts.Unfit c g = HasNoRow (node_of g) (want_of_call (may_of g) (ends_of g) c) c
  IsHalt halts.NoMemory c g = ⊤
  IsHalt halts.Ended c g = ⊥

  -- why a call isn't done that no rule refuses
  abbrev pub IsHeldUp : SeatRefusal → Call → Guest O I G → Type 0
  IsHeldUp refusals.Waiting c g = held_up (node_of g) (want_of_call (may_of g) (ends_of g) c) ≡ Some halts.Waits
  IsHeldUp refusals.AtLimit c g = held_up (node_of g) (want_of_call (may_of g) (ends_of g) c) ≡ Some halts.AtLimit
  IsHeldUp (refusals.Stopped stop) c g = IsStopped stop g ⊎ ((stop ≡ stops.Unfit) × HasNoRow (node_of g) (want_of_call (may_of g) (ends_of g) c) c)
  IsHeldUp refusals.NoMemory c g = ⊤
  IsHeldUp refusals.NotHeld c g = ⊥
  IsHeldUp refusals.BeginsOtherwise c g = ⊥
  IsHeldUp refusals.WrongEnd c g = ⊥
  IsHeldUp refusals.WrongKind c g = ⊥
  IsHeldUp refusals.NotOpened c g = ⊥

  -- the first rule that applies refuses a call, and then nothing happens; where none does, it is held up
  abbrev pub IsRefused : Option SeatRefusal → SeatRefusal → Call → (old new : Guest O I G) → Type 0
  IsRefused (Some rule) r c old new = (r ≡ rule) × (new ≡ old)
  IsRefused None r c old new = IsHeldUp r c new

  -- the same ends at the same places, as many calls, and the same sessions to open
  pub record Rests (old new : Guest O I G) : Type 0 where
    pub ends : ends_of new ≡ ends_of old
    pub calls : calls_of new ≡ calls_of old
    pub may : may_of new ≡ may_of old

  -- the code may name as many texts, and a call waits as many rounds
  pub record SameBounds (old new : Guest O I G) : Type 0 where
    pub texts : texts_of new ≡ texts_of old
    pub looks : looks_of new ≡ looks_of old
