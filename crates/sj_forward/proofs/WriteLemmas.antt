-- What is reported of the ends of a party where one slot is written.
use Rattle.std.proofs.Common.{◌≡◌, ℕ, ◌==◌, ◌&&◌, Bool, true, false, if◌then◌else◌, List, slice_get, Option, Some, option_and_then, refl, ap, sym, ◌∙◌, inl, inr}
use Rattle.std.specs.Prelude.{Vec}
use Rattle.std.proofs.Math.ListN.{set}
use Rattle.std.proofs.lemmas.Bool.{cases_eq}
use Rattle.std.proofs.lemmas.Option.{slice_get_within}
use Rattle.std.specs.declared.alloc.Global.{Global}
use Rattle.sj_base.specs.declared.EndId.{EndId}
use Rattle.sj_rules.specs.Record.{is_same_end}
use Rattle.sj_world_lemmas.proofs.LinkLemmas.{same_is}
use Rattle.sj_forward.specs.declared.slot.Slot.{Slot}
use Rattle.sj_forward.specs.Ends.{Becomes, EndsStay, Rows, SlotStays, Writes, record_in, records_in, slot_in, uses_in}
use Rattle.sj_forward.proofs.SlotLemmas.{one_other, one_same}
use Rattle.sj_forward_rules.specs.Record.{RecordAt}
use Rattle.sj_offers.proofs.SetLemmas.{set_here, set_there}
use Rattle.sj_forward.proofs.FoundLemmas.{record_there, used_there}

module _ (rows : Rows) (e : EndId) (row more : Vec Slot Global) (s new : Slot) (there : slice_get rows e.sess ≡ Some row) (here : slice_get row.items e.side ≡ Some s)
    (items : more.items ≡ set row.items e.side new) where
  pub slot_there : slot_in rows e ≡ Some s
  slot_there = ap (option_and_then (λ (r : Vec Slot Global). slice_get r.items e.side)) there ∙ here

  pub slot_after : (d : EndId) → slot_in (set rows e.sess more) d ≡ (if is_same_end d e then Some new else slot_in rows d)
  slot_after d =
      elim (cases_eq d.sess e.sess) [
        | inr other ↦
            rw (one_other d.sess e.sess other)
            (ap (option_and_then (λ (r : Vec Slot Global). slice_get r.items d.side)) (set_there rows e.sess d.sess more other))
        | inl same ↦
            elim (cases_eq d.side e.side) [
              | inr other ↦
                  rw (same, one_same e.sess, one_other d.side e.side other)
                  (ap (option_and_then (λ (r : Vec Slot Global). slice_get r.items d.side)) (set_here rows e.sess more (slice_get_within rows e.sess row there))
                  ∙ ap (λ (xs : List Slot). slice_get xs d.side) items ∙ set_there row.items e.side d.side new other
                  ∙ sym (ap (option_and_then (λ (r : Vec Slot Global). slice_get r.items d.side)) there))
              | inl both ↦
                  rw (same, both, one_same e.sess, one_same e.side)
                  (ap (option_and_then (λ (r : Vec Slot Global). slice_get r.items e.side)) (set_here rows e.sess more (slice_get_within rows e.sess row there))
                  ∙ ap (λ (xs : List Slot). slice_get xs e.side) items ∙ set_here row.items e.side new (slice_get_within row.items e.side s here))
            ]
      ]

  -- the end is used and recorded as its slot says
  pub wrote : (at : Option ℕ) (hop : ℕ) (r : RecordAt) → Becomes s at hop r new → Writes rows e at hop r (set rows e.sess more)
  wrote at hop r b = record {
    uses = λ i d. use_is d i;
    records = λ i d k. record_is d k i;
  }
    where
      use_if : (d : EndId) (same : Bool) → is_same_end d e ≡ same → option_and_then (λ (x : Slot). x.used) (if same then Some new else slot_in rows d) ≡ (if same then at else uses_in rows d)
      use_if d true is = b.used
      use_if d false is = refl

      use_is : (d : EndId) → uses_in (set rows e.sess more) d ≡ (if is_same_end d e then at else uses_in rows d)
      use_is d = ap (option_and_then (λ (x : Slot). x.used)) (slot_after d) ∙ use_if d (is_same_end d e) refl

      record_if : (d : EndId) (k : ℕ) (same : Bool) → is_same_end d e ≡ same
          → option_and_then (λ (x : Slot). record_in x k) (if same then Some new else slot_in rows d) ≡ (if same && (k == hop) then Some r else records_in rows d k)
      record_if d k true is =
          b.records k
          ∙ ap (λ o. if k == hop then Some r else o)
          (sym (record_there rows e s slot_there k) ∙ ap (λ (x : EndId). records_in rows x k) (sym (same_is d e is)))
      record_if d k false is = refl

      record_is : (d : EndId) (k : ℕ) → records_in (set rows e.sess more) d k ≡ (if is_same_end d e && (k == hop) then Some r else records_in rows d k)
      record_is d k = ap (option_and_then (λ (x : Slot). record_in x k)) (slot_after d) ∙ record_if d k (is_same_end d e) refl

  -- all is as before
  pub stayed : SlotStays s new → EndsStay rows (set rows e.sess more)
  stayed kept = record { uses = λ i d. use_is d i; records = λ i d k. record_is d k i }
    where
      use_if : (d : EndId) (same : Bool) → is_same_end d e ≡ same → option_and_then (λ (x : Slot). x.used) (if same then Some new else slot_in rows d) ≡ uses_in rows d
      use_if d true is = kept.used ∙ sym (used_there rows e s slot_there) ∙ ap (λ (x : EndId). uses_in rows x) (sym (same_is d e is))
      use_if d false is = refl

      use_is : (d : EndId) → uses_in (set rows e.sess more) d ≡ uses_in rows d
      use_is d = ap (option_and_then (λ (x : Slot). x.used)) (slot_after d) ∙ use_if d (is_same_end d e) refl

      record_if : (d : EndId) (k : ℕ) (same : Bool) → is_same_end d e ≡ same → option_and_then (λ (x : Slot). record_in x k) (if same then Some new else slot_in rows d) ≡ records_in rows d k
      record_if d k true is = kept.records k ∙ sym (record_there rows e s slot_there k) ∙ ap (λ (x : EndId). records_in rows x k) (sym (same_is d e is))
      record_if d k false is = refl

      record_is : (d : EndId) (k : ℕ) → records_in (set rows e.sess more) d k ≡ records_in rows d k
      record_is d k = ap (option_and_then (λ (x : Slot). record_in x k)) (slot_after d) ∙ record_if d k (is_same_end d e) refl

  pub slot_now : slot_in (set rows e.sess more) e ≡ Some new
  slot_now =
      ap (option_and_then (λ (r : Vec Slot Global). slice_get r.items e.side)) (set_here rows e.sess more (slice_get_within rows e.sess row there))
      ∙ ap (λ (xs : List Slot). slice_get xs e.side) items ∙ set_here row.items e.side new (slice_get_within row.items e.side s here)
