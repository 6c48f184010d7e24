-- The first open end, found from the last end on.
use Rattle.std.proofs.Common.{◌≡◌, ℕ, ◌+◌, ◌<◌, ◌≤◌, Bool, true, false, cond, List, ◌∷◌, drop, get_or, length, Option, Some, None, ap, sym, ◌∙◌}
use Rattle.std.proofs.lemmas.List.{at_drop_more, drop_all}
use Rattle.sj_base.specs.declared.EndId.{EndId}
use Rattle.sj_lang.specs.ItemCount.{is_done}
use Rattle.sj_seat.specs.Holding.{ends_at, entry_at}
use Rattle.sj_seat.specs.declared.ends.HeldEnd.{HeldEnd}
use Rattle.sj_seat_told_laws.specs.FirstOpen.{earlier, first_open}
use Rattle.sj_table.specs.Spots.{place_in}
use Rattle.sj_table.specs.declared.table.Table.{Table}

-- that of the ends from that one on
abbrev pub first_from : Table → List HeldEnd → ℕ → Option EndId
first_from t bs at = first_open (ends_at t (drop at bs))

pub first_none : (t : Table) (bs : List HeldEnd) (at : ℕ) → length bs ≤ at → None ≡ first_from t bs at
first_none t bs at over = sym (ap (λ (xs : List HeldEnd). first_open (ends_at t xs)) (drop_all at bs over))

-- one end before them
before : (t : Table) (bs : List HeldEnd) (at : ℕ) (b : HeldEnd) → at < length bs → b ≡ get_or bs at b → first_from t bs at ≡ first_open (entry_at t b ∷ ends_at t (drop (at + 1) bs))
before t bs at b lt is = at_drop_more (λ (xs : List HeldEnd). first_open (ends_at t xs)) bs at b lt ∙ ap (λ (x : HeldEnd). first_open (entry_at t x ∷ ends_at t (drop (at + 1) bs))) (sym is)

pub first_over : (t : Table) (bs : List HeldEnd) (at : ℕ) (b : HeldEnd) (first : Option EndId) → at < length bs → b ≡ get_or bs at b → is_done (place_in t b.place) ≡ true → first ≡ first_from t bs (at + 1) → first ≡ first_from t bs at
first_over t bs at b first lt is over so_far = so_far ∙ sym (before t bs at b lt is ∙ ap (λ (c : Bool). cond c (first_from t bs (at + 1)) (earlier (first_from t bs (at + 1)) b.end)) over)

pub first_ahead : (t : Table) (bs : List HeldEnd) (at : ℕ) (b : HeldEnd) (first : Option EndId) (e : EndId) → at < length bs → b ≡ get_or bs at b → is_done (place_in t b.place) ≡ false → first ≡ first_from t bs (at + 1) → Some e ≡ earlier first b.end → Some e ≡ first_from t bs at
first_ahead t bs at b first e lt is ahead so_far next =
    next ∙ ap (λ (o : Option EndId). earlier o b.end) so_far
    ∙ sym (before t bs at b lt is ∙ ap (λ (c : Bool). cond c (first_from t bs (at + 1)) (earlier (first_from t bs (at + 1)) b.end)) ahead)
