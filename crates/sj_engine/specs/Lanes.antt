-- What lanes of bytes have.
use Rattle.std.specs.Prelude.{◌≡◌, ℕ, ◌≤◌, List, map, take}
use Rattle.std.proofs.Common.{refl, ◌∙◌}
use Rattle.sj_lang.specs.Place.{Place, done}
use Rattle.sj_rules.specs.Frames.{FrameAt}
use Rattle.sj_rules.specs.Mapped.{frame_with}
use Rattle.sj_table.specs.declared.table.Spot.{Spot}
use Rattle.sj_end.specs.declared.frames.Frame.{Frame}
use Rattle.sj_lane.specs.Told.{told_frame, told_list}
use Rattle.sj_wire.specs.Lawful.{IsLawful, cached_in}
use Rattle.sj_wire.specs.Limits.{most_cached}
use Rattle.sj_wire.specs.Spelling.{spelling}
use Rattle.sj_engine.specs.Frames.{frames_in}
use Rattle.sj_engine.specs.declared.in_lane.ByteIn.{ByteIn}
use Rattle.sj_engine.specs.declared.out_lane.ByteOut.{ByteOut}

-- the frame keeps the limits of the wire
pub record CanBeSpelt (f : FrameAt Place) : Type 0 where
  pub lawful : IsLawful f
  pub short : cached_in f.body ≤ most_cached

-- the bytes of a frame
abbrev pub frame_text : Frame → List ℕ
frame_text f = spelling (told_frame f)

-- the frames that were pushed since the lane was cleared
abbrev pub pushed_on : ByteOut → List (FrameAt Place)
pushed_on o = told_list o.frames.items

-- frames that were read, as lanes report them
abbrev pub as_told : List (FrameAt Spot) → List (FrameAt Place)
as_told fs = map (frame_with (λ s. done)) fs

-- the frames that were popped and whose bytes are still there
abbrev pub popped_on : ByteIn → List (FrameAt Place)
popped_on i = as_told (frames_in (take i.used i.bytes.items))

-- the bytes that no frame has used up
abbrev pub unread : ByteIn → List ℕ
unread i = i.decoder

-- a pop leaves the bytes
pub record SameIn (a b : ByteIn) : Type 0 where
  pub bytes : b.bytes.items ≡ a.bytes.items

pub in_itself : (x : ByteIn) → SameIn x x
in_itself x = record { bytes = refl }

pub in_later : (x y z : ByteIn) → SameIn x y → SameIn y z → SameIn x z
in_later x y z a b = record { bytes = b.bytes ∙ a.bytes }
