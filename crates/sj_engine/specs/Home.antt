-- What a party sends to itself: it goes from its own lane out to its own lane in.
use Rattle.std.specs.Prelude.{◌≡◌, ℕ, ◌++◌, [], slice_get, Option, Some, None}
use Rattle.std.specs.List.{AllByRecursion, flat_map}
use Rattle.sj_lane.specs.declared.lane.Lanes.{Lanes}
use Rattle.sj_wire.specs.Spelling.{spelling}
use Rattle.sj_engine.specs.Lanes.{CanBeSpelt, pushed_on, unread}
use Rattle.sj_engine.specs.declared.in_lane.ByteIn.{ByteIn}
use Rattle.sj_engine.specs.declared.out_lane.ByteOut.{ByteOut}

-- the bytes that are unread, and then the spellings of what was pushed, are the same; a lane without the other stays
abbrev pub AtHome : (o : Option ByteOut) (i : Option ByteIn) (p : Option ByteOut) (j : Option ByteIn) → Type 0
AtHome (Some o) (Some i) (Some p) (Some j) = unread i ++ flat_map spelling (pushed_on o) ≡ unread j ++ flat_map spelling (pushed_on p)
AtHome (Some o) (Some i) (Some p) None = ⊥
AtHome (Some o) (Some i) None j = ⊥
AtHome (Some o) None p j = (p ≡ Some o) × (j ≡ None)
AtHome None i p j = (p ≡ None) × (j ≡ i)

-- of a party's lanes those to and from itself are so, and the others stay
pub record CarriesHome (party : ℕ) (old new : Lanes ByteOut ByteIn) : Type 0 where
  pub home : AtHome (slice_get old.outs.items party) (slice_get old.ins.items party) (slice_get new.outs.items party) (slice_get new.ins.items party)
  pub outs : (q : ℕ) → (q ≡ party → ⊥) → slice_get new.outs.items q ≡ slice_get old.outs.items q
  pub ins : (q : ℕ) → (q ≡ party → ⊥) → slice_get new.ins.items q ≡ slice_get old.ins.items q

-- nothing is left on its lane to itself, where it has both
abbrev pub IsCarried : (o : Option ByteOut) (i : Option ByteIn) → Type 0
IsCarried (Some o) (Some i) = pushed_on o ≡ []
IsCarried (Some o) None = Unit {0}
IsCarried None i = Unit {0}

-- the lane has a frame that is outside the limits of the wire
abbrev pub IsOutside : Option ByteOut → Type 0
IsOutside None = ⊥
IsOutside (Some o) = AllByRecursion CanBeSpelt (pushed_on o) → ⊥
