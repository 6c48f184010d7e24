-- A slot that was read by its numbers, and what is written there.
use Rattle.std.proofs.Common.{◌≡◌, ℕ, Bool, true, false, if◌then◌else◌, length, get_or, slice_get, Option, Some, option_and_then, refl, ap, sym, ◌∙◌, subst, arith}
use Rattle.std.specs.Prelude.{Vec, vec_len}
use Rattle.std.proofs.Math.ListN.{set}
use Rattle.std.proofs.lemmas.Option.{slice_get_read, slice_get_within}
use Rattle.std.specs.declared.alloc.Global.{Global}
use Rattle.std.specs.Vec.{with_item}
use Rattle.sj_base.specs.declared.EndId.{EndId}
use Rattle.sj_rules.specs.Record.{is_same_end}
use Rattle.sj_world_lemmas.proofs.LinkLemmas.{same_is}
use Rattle.sj_forward.specs.declared.slot.Slot.{Slot}
use Rattle.sj_forward.specs.Ends.{Becomes, EndsStay, HasPlace, KeepsPlaces, Rows, SlotStays, TakesFirst, TakesFrom, Writes, record_in, records_in, slot_in, uses_in}
use Rattle.sj_forward.proofs.SlotLemmas.{some_same}
use Rattle.sj_forward_rules.specs.Node.{HeldAt}
use Rattle.sj_forward_rules.specs.Record.{Held, RecordAt, SentAt}
use Rattle.sj_forward.proofs.FoundLemmas.{record_there, slot_found, used_there}
use Rattle.sj_forward.proofs.WriteLemmas.{slot_after, slot_now, stayed, wrote}

pub record SlotAt (rows : Rows) (e : EndId) (row : Vec Slot Global) (s : Slot) : Type 0 where
  pub is : slot_in rows e ≡ Some s
  pub written : (new : Slot) (at : Option ℕ) (hop : ℕ) (r : RecordAt) → Becomes s at hop r new → Writes rows e at hop r (set rows e.sess (with_item row e.side new))
  pub stays : (new : Slot) → SlotStays s new → EndsStay rows (set rows e.sess (with_item row e.side new))
  pub now : (new : Slot) → slot_in (set rows e.sess (with_item row e.side new)) e ≡ Some new
  pub after : (new : Slot) (d : EndId) → slot_in (set rows e.sess (with_item row e.side new)) d ≡ (if is_same_end d e then Some new else slot_in rows d)

pub slot_read : (rows : Rows) (e : EndId) (row : Vec Slot Global) (s some : Slot) → slot_in rows e ≡ Some some → row ≡ get_or rows e.sess row → s ≡ get_or row.items e.side s → SlotAt rows e row s
slot_read rows e row s some found row_is slot_is =
    let f = slot_found rows e some found in
    let there : slice_get rows e.sess ≡ Some row = slice_get_read rows (length rows) e.sess row refl (slice_get_within rows e.sess f.row f.there) row_is in
    let same : f.row ≡ row = some_same f.row row (sym f.there ∙ there) in
    let own : slice_get row.items e.side ≡ Some some = ap (λ (r : Vec Slot Global). slice_get r.items e.side) (sym same) ∙ f.here in
    let here : slice_get row.items e.side ≡ Some s = slice_get_read row.items (length row.items) e.side s refl (slice_get_within row.items e.side some own) slot_is in
    record {
      is = ap (option_and_then (λ (r : Vec Slot Global). slice_get r.items e.side)) there ∙ here;
      written = λ new at hop r b. wrote rows e row (with_item row e.side new) s new there here refl at hop r b;
      stays = λ new kept. stayed rows e row (with_item row e.side new) s new there here refl kept;
      now = λ new. slot_now rows e row (with_item row e.side new) s new there here refl;
      after = λ new d. slot_after rows e row (with_item row e.side new) s new there here refl d;
    }

-- a record is another, and the end is used as before
pub stores_in : (rows : Rows) (e : EndId) (row : Vec Slot Global) (s new : Slot) (hop : ℕ) (r left : RecordAt) → SlotAt rows e row s → records_in rows e hop ≡ Some r
    → (record_in s hop ≡ Some r → Becomes s s.used hop left new) → Writes rows e (uses_in rows e) hop left (set rows e.sess (with_item row e.side new))
stores_in rows e row s new hop r left at is becomes =
    subst (λ (u : Option ℕ). Writes rows e u hop left (set rows e.sess (with_item row e.side new))) (sym (used_there rows e s at.is))
    (at.written new s.used hop left (becomes (sym (record_there rows e s at.is hop) ∙ is)))

pub takes_from : (rows : Rows) (e : EndId) (row : Vec Slot Global) (s new : Slot) (h : HeldAt) (m : SentAt) → SlotAt rows e row s → TakesFirst s h m new
    → TakesFrom rows e h m (set rows e.sess (with_item row e.side new))
takes_from rows e row s new h m at takes = record {
  rest = takes.rest;
  untaken = takes.untaken;
  writes =
      subst (λ (u : Option ℕ). Writes rows e u h.hop (record { behind = h.behind; state = Held takes.rest }) (set rows e.sess (with_item row e.side new))) (sym (used_there rows e s at.is))
      (at.written new s.used h.hop (record { behind = h.behind; state = Held takes.rest }) takes.becomes);
}

-- no place is gone where a slot has as many as before
pub keeps_places : (rows : Rows) (e : EndId) (row : Vec Slot Global) (s new : Slot) → SlotAt rows e row s → vec_len new.records ≡ vec_len s.records
    → KeepsPlaces rows (set rows e.sess (with_item row e.side new))
keeps_places rows e row s new at size d hop place = by (is_same_end d e) refl
  where
    by : (b : Bool) → is_same_end d e ≡ b → HasPlace (set rows e.sess (with_item row e.side new)) d hop
    by false apart =
        record {
          slot = place.slot;
          there = at.after new d ∙ ap (λ (b : Bool). if b then Some new else slot_in rows d) apart ∙ place.there;
          within = place.within;
        }
    by true same =
        let own : place.slot ≡ s = some_same place.slot s (sym place.there ∙ ap (slot_in rows) (same_is d e same) ∙ at.is) in
        let len : vec_len place.slot.records ≡ vec_len s.records = ap (λ (x : Slot). vec_len x.records) own in
        let within = place.within in
        record {
          slot = new;
          there = at.after new d ∙ ap (λ (b : Bool). if b then Some new else slot_in rows d) same;
          within = omega (arith, within, len, size);
        }
