-- What a party keeps of its ends: a slot for each, by session and then by side.
use Rattle.std.specs.Prelude.{◌≡◌, ℕ, ◌<◌, ◌==◌, ◌&&◌, Bool, true, false, if◌then◌else◌, List, ◌∷◌, ◌++◌, [], get_or, slice_get, vec_len, Vec}
use Rattle.std.specs.Prelude.{Option, Some, None, option_map, option_and_then}
use Rattle.std.specs.declared.alloc.Global.{Global}
use Rattle.sj_base.specs.declared.EndId.{EndId}
use Rattle.sj_rules.specs.Record.{is_same_end}
use Rattle.sj_forward.specs.declared.slot.Slot.{Slot}
use Rattle.sj_forward.specs.Views.{record_at}
use Rattle.sj_forward_rules.specs.Node.{HeldAt, held_at}
use Rattle.sj_forward_rules.specs.Record.{SentAt, StateAt, Held, Parked, Passing, Closed, RecordAt}

-- ---- one end

-- the record of that hop
abbrev pub record_in : Slot → ℕ → Option RecordAt
record_in s h = option_map record_at (get_or s.records.items h None)

-- the Held record in use
abbrev pub slot_held : Slot → Option HeldAt
slot_held s = option_and_then (λ h. held_at h (record_in s h)) s.used

-- it is used so from now on, and the record of that hop is this
pub record Becomes (old : Slot) (at : Option ℕ) (hop : ℕ) (r : RecordAt) (new : Slot) : Type 0 where
  pub used : new.used ≡ at
  pub records : (k : ℕ) → record_in new k ≡ (if k == hop then Some r else record_in old k)

-- nothing that contracts see has changed
pub record SlotStays (old new : Slot) : Type 0 where
  pub used : new.used ≡ old.used
  pub records : (k : ℕ) → record_in new k ≡ record_in old k

-- the message was the first of the untaken ones, and the others are left
pub record LeavesFirst (h : HeldAt) (m : SentAt) (left : Option RecordAt) : Type 0 where
  pub rest : List SentAt
  pub untaken : h.untaken ≡ m ∷ rest
  pub is : left ≡ Some (record { behind = h.behind; state = Held rest })

pub record TakesFirst (old : Slot) (h : HeldAt) (m : SentAt) (new : Slot) : Type 0 where
  pub rest : List SentAt
  pub untaken : h.untaken ≡ m ∷ rest
  pub becomes : Becomes old old.used h.hop (record { behind = h.behind; state = Held rest }) new

-- messages are stored there
abbrev pub stores : StateAt → Bool
stores (Held ms) = true
stores (Parked ms) = true
stores (Passing p) = false
stores Closed = false

abbrev pub is_storing : Option RecordAt → Bool
is_storing None = false
is_storing (Some r) = stores r.state

-- with one more stored message
abbrev pub with_stored : SentAt → StateAt → StateAt
with_stored m (Held ms) = Held (ms ++ m ∷ [])
with_stored m (Parked ms) = Parked (ms ++ m ∷ [])
with_stored m (Passing p) = Passing p
with_stored m Closed = Closed

abbrev pub more_stored : SentAt → RecordAt → RecordAt
more_stored m r = record { behind = r.behind; state = with_stored m r.state }

-- messages wait there
abbrev pub waits : StateAt → Bool
waits (Parked ms) = true
waits (Held ms) = false
waits (Passing p) = false
waits Closed = false

abbrev pub has_waiting : Option RecordAt → Bool
has_waiting None = false
has_waiting (Some r) = waits r.state

-- ---- all ends of a party

abbrev pub Rows : Type 0
Rows = List (Vec Slot Global)

abbrev pub slot_in : Rows → EndId → Option Slot
slot_in rows e = option_and_then (λ (row : Vec Slot Global). slice_get row.items e.side) (slice_get rows e.sess)

abbrev pub uses_in : Rows → EndId → Option ℕ
uses_in rows e = option_and_then (λ (s : Slot). s.used) (slot_in rows e)

abbrev pub records_in : Rows → EndId → ℕ → Option RecordAt
records_in rows e h = option_and_then (λ (s : Slot). record_in s h) (slot_in rows e)

-- the Held record of the end
abbrev pub held_in : Rows → EndId → Option HeldAt
held_in rows e = option_and_then (λ h. held_at h (records_in rows e h)) (uses_in rows e)

-- what the slot of a side has is as before, or it is new and has nothing
abbrev pub SideStays : Option Slot → Option Slot → Type 0
SideStays old new =
    (option_and_then (λ (s : Slot). s.used) new ≡ option_and_then (λ (s : Slot). s.used) old)
    × ((k : ℕ) → option_and_then (λ (s : Slot). record_in s k) new ≡ option_and_then (λ (s : Slot). record_in s k) old)

-- there is a place for a record of that hop
pub record HasPlace (rows : Rows) (e : EndId) (hop : ℕ) : Type 0 where
  pub slot : Slot
  pub there : slot_in rows e ≡ Some slot
  pub within : hop < vec_len slot.records

-- no place is gone
abbrev pub KeepsPlaces : Rows → Rows → Type 0
KeepsPlaces old new = (e : EndId) (hop : ℕ) → HasPlace old e hop → HasPlace new e hop

-- the end is used so from now on, and its record of that hop is this
pub record Writes (old : Rows) (e : EndId) (at : Option ℕ) (hop : ℕ) (r : RecordAt) (new : Rows) : Type 0 where
  pub uses : uses_in new ≡ (λ d. if is_same_end d e then at else uses_in old d)
  pub records : records_in new ≡ (λ d k. if is_same_end d e && (k == hop) then Some r else records_in old d k)

pub record TakesFrom (old : Rows) (e : EndId) (h : HeldAt) (m : SentAt) (new : Rows) : Type 0 where
  pub rest : List SentAt
  pub untaken : h.untaken ≡ m ∷ rest
  pub writes : Writes old e (uses_in old e) h.hop (record { behind = h.behind; state = Held rest }) new

-- nothing that contracts see has changed
pub record EndsStay (old new : Rows) : Type 0 where
  pub uses : uses_in new ≡ uses_in old
  pub records : records_in new ≡ records_in old
