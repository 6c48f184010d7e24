-- The end at which a code stands that makes no further call.
use Rattle.std.specs.Prelude.{◌≡◌, ◌≤◌, nat_lt, [], ◌∷◌, Option, Some, None, if◌then◌else◌}
use Rattle.sj_base.specs.declared.EndId.{EndId}
use Rattle.sj_lang.specs.ItemCount.{is_done}
use Rattle.sj_lang.specs.Place.{Place, done}
use Rattle.sj_told.specs.Told.{slot_of}
use Rattle.sj_seat_laws.specs.Calls.{Ends, place_held}

-- that end, or the other one where this comes first by name
abbrev pub earlier : Option EndId → EndId → Option EndId
earlier None e = Some e
earlier (Some d) e = Some (if nat_lt (slot_of d) (slot_of e) then d else e)

-- the first by name of the ends of which anything is ahead
abbrev pub first_open : Ends → Option EndId
first_open [] = None
first_open (b ∷ bs) = if is_done b.1 then first_open bs else earlier (first_open bs) b.0

-- what it is
pub record IsFirstOpen (bs : Ends) (e : EndId) : Type 0 where
  pub place : Place
  pub held : place_held bs e ≡ Some place
  pub open_there : place ≡ done → ⊥
  pub first : (f : EndId) (q : Place) → place_held bs f ≡ Some q → (q ≡ done → ⊥) → slot_of e ≤ slot_of f
