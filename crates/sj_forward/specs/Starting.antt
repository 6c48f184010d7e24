-- What a party has before any event.
use Rattle.std.specs.Prelude.{◌≡◌, ℕ, ◌<◌, ◌==◌, if◌then◌else◌, List, [], Vec, length, slice_get, Option, Some, None, option_and_then}
use Rattle.std.specs.declared.alloc.Global.{Global}
use Rattle.sj_base.specs.declared.EndId.{EndId}
use Rattle.sj_lang.specs.FileAt.{FileAt, ConnectAt}
use Rattle.sj_semantics.specs.Program.{Program}
use Rattle.sj_forward.specs.declared.forwarder.Forwarder.{Forwarder}
use Rattle.sj_forward.specs.declared.slot.Slot.{Slot}
use Rattle.sj_forward.specs.Forwarder.{forwarder_at, lane_of}
use Rattle.sj_forward.specs.Ends.{Rows, record_in}
use Rattle.sj_forward_rules.specs.Node.{with_program}
use Rattle.sj_forward_rules.specs.Start.{first_node, first_record, first_use}

-- the slot of an end of the connection: it has the end where that is the party's
pub record IsFirstSlot (file : FileAt) (p : ℕ) (e : EndId) (c : ConnectAt) (s : Slot) : Type 0 where
  pub used : s.used ≡ first_use file p e c
  pub records : (h : ℕ) → record_in s h ≡ (if h == 0 then first_record file p e c else None)

-- the slots of both sides
pub record IsFirstRow (file : FileAt) (p sess : ℕ) (c : ConnectAt) (row : List Slot) : Type 0 where
  pub count : length row ≡ 2
  pub each : (side : ℕ) (s : Slot) → slice_get row side ≡ Some s → IsFirstSlot file p (record { sess = sess; side = side }) c s

-- the slots of the first so many connections
pub record AreFirstRows (file : FileAt) (p many : ℕ) (rows : Rows) : Type 0 where
  pub count : length rows ≡ many
  pub each : (sess : ℕ) (c : ConnectAt) (row : Vec Slot Global) → slice_get file.connects sess ≡ Some c → slice_get rows sess ≡ Some row → IsFirstRow file p sess c row.items

-- the party before any event
pub record IsFirst (file : FileAt) (p : ℕ) (d : Forwarder) : Type 0 where
  pub node : (g : Program) → forwarder_at g d ≡ with_program g (first_node file p)
  pub lanes : (q : ℕ) → lane_of d q ≡ []

-- the first so many parties of the file
pub record AreFirst (file : FileAt) (many : ℕ) (forwarders : List Forwarder) : Type 0 where
  pub count : length forwarders ≡ many
  pub each : (p : ℕ) (d : Forwarder) → slice_get forwarders p ≡ Some d → IsFirst file p d
