-- What stands at the start of bytes, by the order of refusals.
use Rattle.std.specs.Prelude.{ℕ, ◌||◌, ◌==◌, if◌then◌else◌, nat_lt, List, length, take, drop, slice_index, Option, Some, None}
use Rattle.byteorder.specs.Endian.{big_number}
use Rattle.sj_rules.specs.Frames.{FrameAt}
use Rattle.sj_table.specs.declared.table.Spot.{Spot}
use Rattle.sj_wire.specs.Kinds.{kind_in}
use Rattle.sj_wire.specs.Limits.{version, open_version, least_length, most_length}
use Rattle.sj_wire.specs.Reading.{frame_at}
use Rattle.sj_wire.specs.declared.kind.Kind.{Kind}
use Rattle.sj_wire.specs.declared.refusal.WireRefusal.{WireRefusal}
use Rattle.sj_wire.specs.declared.refusal.WireRefusal.TheVariants as refusals

-- less than a whole frame, no frame, or a frame and the bytes after it
pub data Front : Type 0 where
  Cut : Front
  Refused : WireRefusal → Front
  Whole : FrameAt Spot → (behind : List ℕ) → Front

-- a frame where the fields are those of one
abbrev pub of_fields : Option (FrameAt Spot) → (behind : List ℕ) → Front
of_fields None behind = Refused refusals.Value
of_fields (Some f) behind = Whole f behind

-- the kind is tested before the fields
abbrev pub of_kind : Option Kind → (fields behind : List ℕ) → Front
of_kind None fields behind = Refused refusals.Kind
of_kind (Some k) fields behind = of_fields (frame_at k fields) behind

-- the version is tested before the kind
unfoldable pub whole_of : List ℕ → (behind : List ℕ) → Front
whole_of bytes behind =
    if slice_index bytes 0 == version || slice_index bytes 0 == open_version
    then of_kind (kind_in (slice_index bytes 0) (slice_index bytes 1)) (drop 2 bytes) behind
    else Refused refusals.Version

-- a length that no frame has is refused at once, all else once the whole frame is there
unfoldable pub sized_of : (size : ℕ) → List ℕ → Front
sized_of size bytes =
    if nat_lt size least_length || nat_lt most_length size then Refused refusals.Length
    else if nat_lt (length bytes) size then Cut
    else whole_of (take size bytes) (drop size bytes)

unfoldable pub front_of : List ℕ → Front
front_of bytes = if nat_lt (length bytes) 4 then Cut else sized_of (big_number 4 bytes) (drop 4 bytes)
