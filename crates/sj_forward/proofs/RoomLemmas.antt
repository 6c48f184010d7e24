-- Memory for a slot leaves the ends as they are.
use Rattle.std.proofs.Common.{◌≡◌, ℕ, zero, suc, ◌<◌, List, [], ◌∷◌, ◌++◌, length, get_or, slice_get, Option, Some, None, option_map, option_and_then, refl, ap, sym, ◌∙◌, subst, arith, inl, inr}
use Rattle.std.specs.Prelude.{IsSome, Vec}
use Rattle.std.proofs.Math.ListN.{set}
use Rattle.std.proofs.lemmas.Bool.{cases_eq}
use Rattle.std.proofs.lemmas.Option.{slice_get_read}
use Rattle.std.specs.declared.alloc.Global.{Global}
use Rattle.sj_base.specs.declared.EndId.{EndId}
use Rattle.sj_forward.specs.declared.records.Record.{Record}
use Rattle.sj_forward.specs.declared.slot.Slot.{Slot}
use Rattle.sj_forward.specs.Views.{record_at}
use Rattle.sj_forward.specs.Ends.{EndsStay, Rows, SideStays, record_in, records_in, slot_in, uses_in}
use Rattle.sj_offers.proofs.SetLemmas.{set_here, set_there}

pub ends_both : (old mid new : Rows) → EndsStay old mid → EndsStay mid new → EndsStay old new
ends_both old mid new a b = record { uses = b.uses ∙ a.uses; records = b.records ∙ a.records }

-- a slot that has nothing is put after those of a row
pub side_more : (xs : List Slot) (s : Slot) (k : ℕ) → s.used ≡ None → s.records.items ≡ [] → SideStays (slice_get xs k) (slice_get (xs ++ s ∷ []) k)
side_more [] s zero used none = (used, λ h. ap (λ (rs : List (Option Record)). option_map record_at (get_or rs h None)) none)
side_more [] s (suc k) used none = (refl, λ h. refl)
side_more (x ∷ xs) s zero used none = (refl, λ h. refl)
side_more (x ∷ xs) s (suc k) used none = side_more xs s k used none

pub sides_both : (a b c : Option Slot) → SideStays a b → SideStays b c → SideStays a c
sides_both a b c x y = (y.0 ∙ x.0, λ k. y.1 k ∙ x.1 k)

-- a row is another, whose slots have the same
pub row_stays : (rows : Rows) (sess : ℕ) (row more : Vec Slot Global) → sess < length rows → row ≡ get_or rows sess row → ((k : ℕ) → SideStays (slice_get row.items k) (slice_get more.items k))
    → EndsStay rows (set rows sess more)
row_stays rows sess row more lt row_is same = record { uses = λ i d. use_is d i; records = λ i d k. record_is d k i }
  where
    there : slice_get rows sess ≡ Some row
    there = slice_get_read rows (length rows) sess row refl lt row_is

    use_is : (d : EndId) → uses_in (set rows sess more) d ≡ uses_in rows d
    use_is d =
        elim (cases_eq d.sess sess) [
          | inl is ↦
              let at : slot_in (set rows sess more) d ≡ slice_get more.items d.side = ap (λ n. option_and_then (λ (r : Vec Slot Global). slice_get r.items d.side) (slice_get (set rows sess more) n)) is ∙ ap (option_and_then (λ (r : Vec Slot Global). slice_get r.items d.side)) (set_here rows sess more lt) in
              let was : slot_in rows d ≡ slice_get row.items d.side = ap (λ n. option_and_then (λ (r : Vec Slot Global). slice_get r.items d.side) (slice_get rows n)) is ∙ ap (option_and_then (λ (r : Vec Slot Global). slice_get r.items d.side)) there in
              ap (option_and_then (λ (x : Slot). x.used)) at ∙ (same d.side).0 ∙ sym (ap (option_and_then (λ (x : Slot). x.used)) was)
          | inr other ↦ ap (λ o. option_and_then (λ (x : Slot). x.used) (option_and_then (λ (r : Vec Slot Global). slice_get r.items d.side) o)) (set_there rows sess d.sess more other)
        ]

    record_is : (d : EndId) (k : ℕ) → records_in (set rows sess more) d k ≡ records_in rows d k
    record_is d k =
        elim (cases_eq d.sess sess) [
          | inl is ↦
              let at : slot_in (set rows sess more) d ≡ slice_get more.items d.side = ap (λ n. option_and_then (λ (r : Vec Slot Global). slice_get r.items d.side) (slice_get (set rows sess more) n)) is ∙ ap (option_and_then (λ (r : Vec Slot Global). slice_get r.items d.side)) (set_here rows sess more lt) in
              let was : slot_in rows d ≡ slice_get row.items d.side = ap (λ n. option_and_then (λ (r : Vec Slot Global). slice_get r.items d.side) (slice_get rows n)) is ∙ ap (option_and_then (λ (r : Vec Slot Global). slice_get r.items d.side)) there in
              ap (option_and_then (λ (x : Slot). record_in x k)) at ∙ (same d.side).1 k ∙ sym (ap (option_and_then (λ (x : Slot). record_in x k)) was)
          | inr other ↦ ap (λ o. option_and_then (λ (x : Slot). record_in x k) (option_and_then (λ (r : Vec Slot Global). slice_get r.items d.side) o)) (set_there rows sess d.sess more other)
        ]

-- the slot is there then
pub side_there : (rows : Rows) (e : EndId) (more : Vec Slot Global) → e.sess < length rows → e.side < length more.items → IsSome (slot_in (set rows e.sess more) e)
side_there rows e more lt within =
    let at : slot_in (set rows e.sess more) e ≡ slice_get more.items e.side = ap (option_and_then (λ (r : Vec Slot Global). slice_get r.items e.side)) (set_here rows e.sess more lt) in
    let filled : (xs : List Slot) (n : ℕ) → n < length xs → IsSome (slice_get xs n) = is_there in
    subst IsSome (sym at) (filled more.items e.side within)
  where
    is_there : (xs : List Slot) (n : ℕ) → n < length xs → IsSome (slice_get xs n)
    is_there [] n lt = absurd (omega (arith, lt))
    is_there (x ∷ xs) zero lt = refl
    is_there (x ∷ xs) (suc n) lt = is_there xs n (omega (arith, lt))

-- an empty row is put after the others
pub row_more : (rows : Rows) (row : Vec Slot Global) → row.items ≡ [] → EndsStay rows (rows ++ row ∷ [])
row_more rows row none = record {
  uses = λ i d. ap (option_and_then (λ (x : Slot). x.used)) (slot_is rows d.sess d.side) i;
  records = λ i d k. ap (option_and_then (λ (x : Slot). record_in x k)) (slot_is rows d.sess d.side) i;
}
  where
    slot_is : (rs : Rows) (n side : ℕ) → option_and_then (λ (r : Vec Slot Global). slice_get r.items side) (slice_get (rs ++ row ∷ []) n) ≡ option_and_then (λ (r : Vec Slot Global). slice_get r.items side) (slice_get rs n)
    slot_is [] zero side = ap (λ (xs : List Slot). slice_get xs side) none
    slot_is [] (suc n) side = refl
    slot_is (r ∷ rs) zero side = refl
    slot_is (r ∷ rs) (suc n) side = slot_is rs n side
