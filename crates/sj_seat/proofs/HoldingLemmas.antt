-- Held ends, by spots and by places.
use Rattle.std.proofs.Common.{◌≡◌, ◌∙◌, Bool, true, false, not, cond, List, [], ◌∷◌, filter, Option, Some, None, option_map, refl, ap, sym}
use Rattle.std.specs.Option.{is_some}
use Rattle.std.specs.Prelude.{is_none, unwrap_or}
use Rattle.sj_base.specs.declared.EndId.{EndId}
use Rattle.sj_lang.specs.Place.{Place, done}
use Rattle.sj_rules.specs.Record.{is_same_end}
use Rattle.sj_seat_laws.specs.Calls.{Ends, place_held, without_end}
use Rattle.sj_table.specs.declared.table.Spot.{Spot}
use Rattle.sj_table.specs.declared.table.Table.{Table}
use Rattle.sj_table.specs.Spots.{place_in}
use Rattle.sj_seat.specs.Holding.{ends_at, spot_held}
use Rattle.sj_seat.specs.Rules.{is_missing, place_at}
use Rattle.sj_seat.specs.declared.ends.HeldEnd.{HeldEnd}

held_if : (t : Table) (b : Bool) (s : Spot) (o : Option Spot) (p : Option Place) → option_map (place_in t) o ≡ p → option_map (place_in t) (cond b (Some s) o) ≡ cond b (Some (place_in t s)) p
held_if t true s o p h = refl
held_if t false s o p h = h

-- the place of an end that is held is that of its spot
pub held_place : (t : Table) (bs : List HeldEnd) (e : EndId) → option_map (place_in t) (spot_held bs e) ≡ place_held (ends_at t bs) e
held_place t [] e = refl
held_place t (b ∷ bs) e = held_if t (is_same_end b.end e) b.place (spot_held bs e) (place_held (ends_at t bs) e) (held_place t bs e)

none_told : (r : Bool) (o : Option Spot) → is_some o ≡ not r → r ≡ is_none o
none_told true None h = refl
none_told false None h = cc
none_told true (Some s) h = cc
none_told false (Some s) h = refl

missing_map : (t : Table) (o : Option Spot) → is_none o ≡ is_none (option_map (place_in t) o)
missing_map t None = refl
missing_map t (Some s) = refl

-- where there is no spot the end isn't held
pub held_missing : (t : Table) (bs : List HeldEnd) (e : EndId) (r : Bool) (o : Option Spot) → o ≡ spot_held bs e → is_some o ≡ not r → r ≡ is_missing (ends_at t bs) e
held_missing t bs e r o found told = none_told r o told ∙ ap is_none found ∙ missing_map t (spot_held bs e) ∙ ap is_none (held_place t bs e)

-- where there is one, the end is at its place
pub held_at_spot : (t : Table) (bs : List HeldEnd) (e : EndId) (s : Spot) → spot_held bs e ≡ Some s → place_in t s ≡ place_at (ends_at t bs) e
held_at_spot t bs e s h = sym (ap (λ o. unwrap_or (option_map (place_in t) o) done) h) ∙ ap (λ o. unwrap_or o done) (held_place t bs e)

-- and where there is none, at the empty one
pub held_at_none : (t : Table) (bs : List HeldEnd) (e : EndId) → spot_held bs e ≡ None → done ≡ place_at (ends_at t bs) e
held_at_none t bs e h = sym (ap (λ o. unwrap_or (option_map (place_in t) o) done) h) ∙ ap (λ o. unwrap_or o done) (held_place t bs e)

released_if : (t : Table) (b : Bool) (x : HeldEnd) (bs : List HeldEnd) (es : Ends) → ends_at t bs ≡ es → ends_at t (cond b (x ∷ bs) bs) ≡ cond b ((x.end, place_in t x.place) ∷ es) es
released_if t true x bs es h = ap (λ r. (x.end, place_in t x.place) ∷ r) h
released_if t false x bs es h = h

-- an end that is taken out
pub released : (t : Table) (bs : List HeldEnd) (e : EndId) → ends_at t (filter (λ b. not (is_same_end b.end e)) bs) ≡ without_end (ends_at t bs) e
released t [] e = refl
released t (x ∷ bs) e = released_if t (not (is_same_end x.end e)) x (filter (λ b. not (is_same_end b.end e)) bs) (without_end (ends_at t bs) e) (released t bs e)
