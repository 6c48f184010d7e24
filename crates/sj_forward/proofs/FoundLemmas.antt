-- Where the slot of an end is found, and what it reports of the end.
use Rattle.std.proofs.Common.{◌≡◌, ℕ, Bool, true, false, slice_get, Option, Some, None, option_and_then, refl, ap, sym, ◌∙◌, subst}
use Rattle.std.specs.Prelude.{IsSome, Vec}
use Rattle.std.specs.declared.alloc.Global.{Global}
use Rattle.sj_base.specs.declared.EndId.{EndId}
use Rattle.sj_forward.specs.declared.slot.Slot.{Slot}
use Rattle.sj_forward.specs.Ends.{Rows, has_waiting, held_in, is_storing, record_in, records_in, slot_held, slot_in, uses_in}
use Rattle.sj_forward_rules.specs.Node.{HeldAt, held_at}
use Rattle.sj_forward_rules.specs.Ready.{has_message}
use Rattle.sj_forward_rules.specs.Record.{RecordAt}

pub record SlotThere (rows : Rows) (e : EndId) (s : Slot) : Type 0 where
  pub row : Vec Slot Global
  pub there : slice_get rows e.sess ≡ Some row
  pub here : slice_get row.items e.side ≡ Some s

pub slot_found : (rows : Rows) (e : EndId) (s : Slot) → slot_in rows e ≡ Some s → SlotThere rows e s
slot_found rows e s is = by (slice_get rows e.sess) refl
  where
    by : (o : Option (Vec Slot Global)) → slice_get rows e.sess ≡ o → SlotThere rows e s
    by None there = absurd (let none : slot_in rows e ≡ None = ap (option_and_then (λ (row : Vec Slot Global). slice_get row.items e.side)) there in cc (is, none))
    by (Some row) there = record { row = row; there = there; here = sym (ap (option_and_then (λ (r : Vec Slot Global). slice_get r.items e.side)) there) ∙ is }

-- where something is in use or recorded there is a slot
pub slot_used : (rows : Rows) (e : EndId) → IsSome (held_in rows e) → (s : Slot) × (slot_in rows e ≡ Some s)
slot_used rows e some = by (slot_in rows e) refl
  where
    by : (o : Option Slot) → slot_in rows e ≡ o → (s : Slot) × (slot_in rows e ≡ Some s)
    by (Some s) is = (s, is)
    by None is =
        let none : held_in rows e ≡ None = ap (option_and_then (λ h. held_at h (records_in rows e h))) (ap (option_and_then (λ (s : Slot). s.used)) is) in
        let bad = subst IsSome none some in
        absurd (cc bad)

pub slot_recorded : (rows : Rows) (e : EndId) (h : ℕ) (r : RecordAt) → records_in rows e h ≡ Some r → (s : Slot) × (slot_in rows e ≡ Some s)
slot_recorded rows e h r there = by (slot_in rows e) refl
  where
    by : (o : Option Slot) → slot_in rows e ≡ o → (s : Slot) × (slot_in rows e ≡ Some s)
    by (Some s) is = (s, is)
    by None is = absurd (let none : records_in rows e h ≡ None = ap (option_and_then (λ (s : Slot). record_in s h)) is in cc (there, none))

-- what a slot reports of its end
module _ (rows : Rows) (e : EndId) (s : Slot) (is : slot_in rows e ≡ Some s) where
  pub held_there : held_in rows e ≡ slot_held s
  held_there = λ i. option_and_then (λ h. held_at h (option_and_then (λ (x : Slot). record_in x h) (is i))) (option_and_then (λ (x : Slot). x.used) (is i))

  pub used_there : uses_in rows e ≡ s.used
  used_there = ap (option_and_then (λ (x : Slot). x.used)) is

  pub record_there : (k : ℕ) → records_in rows e k ≡ record_in s k
  record_there k = ap (option_and_then (λ (x : Slot). record_in x k)) is

-- what the Held end of the rows is in the slot, and a record
pub held_of_slot : (rows : Rows) (e : EndId) (s : Slot) (h : HeldAt) → slot_in rows e ≡ Some s → held_in rows e ≡ Some h → slot_held s ≡ Some h
held_of_slot rows e s h is held = sym (held_there rows e s is) ∙ held

pub held_somewhere : (rows : Rows) (e : EndId) → has_message (held_in rows e) ≡ true → IsSome (held_in rows e)
held_somewhere rows e h = by (held_in rows e) h
  where
    by : (o : Option HeldAt) → has_message o ≡ true → IsSome o
    by None h = absurd (cc h)
    by (Some x) h = refl

recorded : (rows : Rows) (e : EndId) (hop : ℕ) (test : Option RecordAt → Bool) → test None ≡ false → test (records_in rows e hop) ≡ true → (s : Slot) × (slot_in rows e ≡ Some s)
recorded rows e hop test never h = by (records_in rows e hop) refl h
  where
    by : (o : Option RecordAt) → records_in rows e hop ≡ o → test o ≡ true → (s : Slot) × (slot_in rows e ≡ Some s)
    by None is t = absurd (let bad : true ≡ false = sym t ∙ never in cc bad)
    by (Some r) is t = slot_recorded rows e hop r is

pub slot_storing : (rows : Rows) (e : EndId) (hop : ℕ) → is_storing (records_in rows e hop) ≡ true → (s : Slot) × (slot_in rows e ≡ Some s)
slot_storing rows e hop h = recorded rows e hop is_storing refl h

pub slot_waiting : (rows : Rows) (e : EndId) (hop : ℕ) → has_waiting (records_in rows e hop) ≡ true → (s : Slot) × (slot_in rows e ≡ Some s)
slot_waiting rows e hop h = recorded rows e hop has_waiting refl h
